-- Lists in pieces.
use Rattle.std.proofs.Common.{◌≡◌, ◌∙◌, List, [], ◌∷◌, ◌++◌, Vec, Global, append_assoc, refl, sym, ap}
use Rattle.std.specs.List.{AllByRecursion, AllZip, flat_map}

-- the items of all pieces
abbrev pub all_of : {X : Type 0} → List (Vec X Global) → List X
all_of pieces = flat_map (λ piece. piece.items) pieces

pub all_of-append : {X : Type 0} (ps qs : List (Vec X Global)) → all_of (ps ++ qs) ≡ all_of ps ++ all_of qs
all_of-append [] qs = refl
all_of-append (p ∷ ps) qs = ap (λ (l : List _). p.items ++ l) (all_of-append ps qs) ∙ sym (append_assoc p.items (all_of ps) (all_of qs))

-- what holds of all items holds of those of each piece
all_front : {X : Type 0} (P : X → Type 0) (xs ys : List X) → AllByRecursion P (xs ++ ys) → AllByRecursion P xs
all_front P [] ys h = tt
all_front P (x ∷ xs) ys h = (h.0, all_front P xs ys h.1)

all_rest : {X : Type 0} (P : X → Type 0) (xs ys : List X) → AllByRecursion P (xs ++ ys) → AllByRecursion P ys
all_rest P [] ys h = h
all_rest P (x ∷ xs) ys h = all_rest P xs ys h.1

pub in_pieces : {X : Type 0} (P : X → Type 0) (ps : List (Vec X Global)) → AllByRecursion P (all_of ps) → AllByRecursion (λ piece. AllByRecursion P piece.items) ps
in_pieces P [] h = tt
in_pieces P (p ∷ ps) h = (all_front P p.items (all_of ps) h, in_pieces P ps (all_rest P p.items (all_of ps) h))

-- what relates the items of pieces in pairs relates all items in pairs
pub pairs_append : {X Y : Type 0} (R : X → Y → Type 0) (xs us : List X) (ys vs : List Y) → AllZip R xs ys → AllZip R us vs → AllZip R (xs ++ us) (ys ++ vs)
pairs_append R [] us [] vs h k = k
pairs_append R [] us (y ∷ ys) vs h k = absurd h
pairs_append R (x ∷ xs) us [] vs h k = absurd h
pairs_append R (x ∷ xs) us (y ∷ ys) vs h k = (h.0, pairs_append R xs us ys vs h.1 k)

pub pairs_joined : {X Y : Type 0} (R : X → Y → Type 0) (ps : List (Vec X Global)) (qs : List (Vec Y Global)) → AllZip (λ p q. AllZip R p.items q.items) ps qs →
    AllZip R (all_of ps) (all_of qs)
pairs_joined R [] [] h = tt
pairs_joined R [] (q ∷ qs) h = absurd h
pairs_joined R (p ∷ ps) [] h = absurd h
pairs_joined R (p ∷ ps) (q ∷ qs) h = pairs_append R p.items (all_of ps) q.items (all_of qs) h.0 (pairs_joined R ps qs h.1)
