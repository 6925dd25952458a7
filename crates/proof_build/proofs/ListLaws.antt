-- Lists that grow at their end.
use Rattle.std.proofs.Common.{◌≡◌, ◌∙◌, ℕ, zero, suc, ◌+◌, ◌<◌, ◌≤◌, List, [], ◌∷◌, ◌++◌, length, take, get_or, Option, None, Some, refl, sym, ap, subst, arith, add-one, append_assoc}
use Rattle.std.specs.Prelude.{map, slice_get, Result, Ok, Err, OnOk}
use Rattle.std.specs.List.{AllByRecursion, filter_map, cons_option}
use Rattle.std.proofs.lemmas.List.{take_more, take_all, map_more}
use Rattle.itp_automaton.proofs.StateLaws.{take_next}
use Rattle.proof_names.specs.ProofSpell.Correspond.{Correspond}

pub mapped_behind : {X Y : Type 0} (f : X → Y) (xs : List X) (i : ℕ) (d : X) (begin old new : List Y) → i < length xs → old ≡ begin ++ map f (take i xs) →
    new ≡ old ++ f (get_or xs i d) ∷ [] → new ≡ begin ++ map f (take (i + 1) xs)
mapped_behind f xs i d begin old new l h e =
    e ∙ ap (λ (ys : List _). ys ++ f (get_or xs i d) ∷ []) h ∙ append_assoc begin (map f (take i xs)) (f (get_or xs i d) ∷ []) ∙
    ap (λ (ys : List _). begin ++ ys) (sym (map_more f xs i d l))

pub taken_next : {X : Type 0} (xs : List X) (i : ℕ) (d : X) (old new : List X) → i < length xs → old ≡ take i xs → new ≡ old ++ get_or xs i d ∷ [] →
    new ≡ take (i + 1) xs
taken_next xs i d old new l h e = e ∙ ap (λ (ys : List _). ys ++ get_or xs i d ∷ []) h ∙ sym (take_more xs i d l)

pub got_front : {X : Type 0} (xs ys : List X) (n : ℕ) (x : X) → slice_get xs n ≡ Some x → slice_get (xs ++ ys) n ≡ Some x
got_front [] ys n x e = absurd (cc)
got_front (y ∷ xs) ys zero x e = e
got_front (y ∷ xs) ys (suc n) x e = got_front xs ys n x e

pub got_last : {X : Type 0} (xs : List X) (x : X) → slice_get (xs ++ x ∷ []) (length xs) ≡ Some x
got_last [] x = refl
got_last (y ∷ xs) x = got_last xs x

pub all_push : {X : Type 0} (P : X → Type 0) (xs : List X) (x : X) → AllByRecursion P xs → P x → AllByRecursion P (xs ++ x ∷ [])
all_push P [] x h p = (p, tt)
all_push P (y ∷ xs) x h p = (h.0, all_push P xs x h.1 p)

pub all_mapped : {X : Type 0} (P Q : X → Type 0) (xs : List X) → ((x : X) → P x → Q x) → AllByRecursion P xs → AllByRecursion Q xs
all_mapped P Q [] f h = tt
all_mapped P Q (x ∷ xs) f h = (f x h.0, all_mapped P Q xs f h.1)

-- of the members so far and of the next one, so of one more
pub all_next : {X : Type 0} (P : X → Type 0) (xs : List X) (n : ℕ) (x : X) → n < length xs → x ≡ get_or xs n x → AllByRecursion P (take n xs) → P x →
    AllByRecursion P (take (n + 1) xs)
all_next P xs n x l e h p = subst (λ (ys : List _). AllByRecursion P ys) (sym (take_next xs n x l e)) (all_push P (take n xs) x h p)

pub all_at : {X : Type 0} (P : X → Type 0) (xs : List X) (n : ℕ) (x : X) → n < length xs → x ≡ get_or xs n x → AllByRecursion P xs → P x
all_at P [] n x l e h = absurd (omega arith)
all_at P (y ∷ xs) zero x l e h = subst P (sym e) h.0
all_at P (y ∷ xs) (suc n) x l e h = all_at P xs n x (omega arith) e h.1

-- ---- lists that are made member by member

one_more : {X Y : Type 0} (R : X → Y → Type 0) (xs : List X) (ys : List Y) (i : ℕ) (x : X) (y d : Y) → Correspond R xs (take i ys) → i < length ys → y ≡ get_or ys i d → R x y →
    Correspond R (xs ++ x ∷ []) (take (suc i) ys)
one_more R xs [] i x y d h l e r = absurd (omega arith)
one_more R [] (z ∷ ys) zero x y d h l e r = (subst (R x) e r, tt)
one_more R (w ∷ xs) (z ∷ ys) zero x y d h l e r = absurd h
one_more R [] (z ∷ ys) (suc i) x y d h l e r = absurd h
one_more R (w ∷ xs) (z ∷ ys) (suc i) x y d h l e r = (h.0, one_more R xs ys i x y d h.1 (omega arith) e r)

-- one member more corresponds to the next of the other list
pub correspond_more : {X Y : Type 0} (R : X → Y → Type 0) (xs more : List X) (ys : List Y) (i : ℕ) (x : X) (y d : Y) → Correspond R xs (take i ys) → i < length ys → y ≡ get_or ys i d →
    R x y → more ≡ xs ++ x ∷ [] → Correspond R more (take (i + 1) ys)
correspond_more R xs more ys i x y d h l e r m =
    rw (add-one) (subst (λ k. Correspond R k (take (suc i) ys)) (sym m) (one_more R xs ys i x y d h l e r))

pub correspond_end : {X Y : Type 0} (R : X → Y → Type 0) (xs : List X) (ys : List Y) (i : ℕ) → Correspond R xs (take i ys) → length ys ≤ i → Correspond R xs ys
correspond_end R xs ys i h l = subst (λ k. Correspond R xs k) (take_all i ys l) h

pub map_joined : {X Y : Type 0} (f : X → Y) (xs ys : List X) → map f (xs ++ ys) ≡ map f xs ++ map f ys
map_joined f [] ys = refl
map_joined f (x ∷ xs) ys = ap (λ (l : List _). f x ∷ l) (map_joined f xs ys)

first_joined : {Y : Type 0} (o : Option Y) (all xs ys : List Y) → all ≡ xs ++ ys → cons_option o all ≡ cons_option o xs ++ ys
first_joined None all xs ys e = e
first_joined (Some y) all xs ys e = ap (λ (l : List _). y ∷ l) e

pub filter_map_joined : {X Y : Type 0} (f : X → Option Y) (xs ys : List X) → filter_map f (xs ++ ys) ≡ filter_map f xs ++ filter_map f ys
filter_map_joined f [] ys = refl
filter_map_joined f (x ∷ xs) ys = first_joined (f x) (filter_map f (xs ++ ys)) (filter_map f xs) (filter_map f ys) (filter_map_joined f xs ys)

-- what is made of one member more, if something is
pub passed_next : {X Y : Type 0} (f : X → Option Y) (old : List Y) (xs : List X) (i : ℕ) (x d : X) → i < length xs → x ≡ get_or xs i d →
    old ++ filter_map f (take (i + 1) xs) ≡ (old ++ filter_map f (take i xs)) ++ cons_option (f x) []
passed_next f old xs i x d l e =
    let t : take (i + 1) xs ≡ take i xs ++ x ∷ [] = take_more xs i d l ∙ (λ j. take i xs ++ sym e j ∷ []) in
    let m : filter_map f (take (i + 1) xs) ≡ filter_map f (take i xs) ++ filter_map f (x ∷ []) = ap (filter_map f) t ∙ filter_map_joined f (take i xs) (x ∷ []) in
    ap (λ (k : List _). old ++ k) m ∙ sym (append_assoc old (filter_map f (take i xs)) (cons_option (f x) []))

pub on_ok : {X F : Type 0} (r : Result X F) (x : X) (P : Type 0) → r ≡ Ok x → OnOk r P → P
on_ok (Ok y) x P e h = h
on_ok (Err f) x P e h = absurd (cc)

-- the images so far and of the next member
pub images_next : {X Y : Type 0} (f : X → Y) (xs : List X) (i : ℕ) (x d : X) → i < length xs → x ≡ get_or xs i d → map f (take (i + 1) xs) ≡ map f (take i xs) ++ f x ∷ []
images_next f xs i x d l e =
    let t : take (i + 1) xs ≡ take i xs ++ x ∷ [] = take_more xs i d l ∙ (λ j. take i xs ++ sym e j ∷ []) in
    ap (map f) t ∙ map_joined f (take i xs) (x ∷ [])

pub images_end : {X Y : Type 0} (f : X → Y) (xs : List X) (i : ℕ) → length xs ≤ i → map f (take i xs) ≡ map f xs
images_end f xs i l = ap (map f) (take_all i xs l)

pub image_at : {X Y : Type 0} (P : Y → Type 0) (f : X → Y) (xs : List X) (n : ℕ) (x : X) → n < length xs → x ≡ get_or xs n x → AllByRecursion P (map f xs) → P (f x)
image_at P f [] n x l e h = absurd (omega arith)
image_at P f (y ∷ xs) zero x l e h = subst (λ (z : _). P (f z)) (sym e) h.0
image_at P f (y ∷ xs) (suc n) x l e h = image_at P f xs n x (omega arith) e h.1
