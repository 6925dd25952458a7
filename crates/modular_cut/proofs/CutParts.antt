-- What cutting a program keeps: its procedures, and the typing rules of each part.
use Rattle.std.proofs.Common.{◌≡◌, ℕ, zero, suc, ◌+◌, ◌-◌, ◌<◌, ◌≤◌, ◌^◌, true, List, [], ◌∷◌, ◌++◌, map, length, take, drop, get_or, Option, None, Some, slice_get, IsTrue, refl, sym, ap, ◌∙◌, arith, append_assoc, append-nil}
use Rattle.std.specs.List.{list_all}
use Rattle.std.proofs.lemmas.Bool.{and_parts, false≢true}
use Rattle.std.proofs.lemmas.Option.{slice_get_within, slice_get_read}
use Rattle.std.proofs.lemmas.List.{length-map, length-drop, map-append, take_all}
use Rattle.boogie_tree.specs.Names.{is_name}
use Rattle.typed_tree.specs.TypedTree.{TypedBlock, TypedProcedure, TypedProgram}
use Rattle.typed_tree.specs.TypingRules.Rules.{meets}
use Rattle.typed_tree.specs.TypingRules.Counts.{numbers_fit}
use Rattle.typed_tree.specs.TypingRules.ValidProgram.{has_body, is_typed, is_valid}
use Rattle.typed_tree.proofs.TypingRules.ValidLaws as valid_laws
use Rattle.modular_cut.specs.Parts.{without_body, copy_of, own_procedure, cut_procs, copies, procedure_part, PlainPart, part_at, parts_from_number}
use Rattle.modular_cut.proofs.Called.{get_map}
use Rattle.modular_cut.proofs.TypedParts.{parts_are_typed}

-- ---- the procedures of a part

cut_next : (r : ℕ → ℕ) (n : ℕ) (ps : List TypedProcedure) (q : TypedProcedure) → slice_get ps n ≡ Some q →
    cut_procs r n ps ≡ map without_body (take n ps) ++ own_procedure r q ∷ map without_body (drop (suc n) ps)
cut_next r n [] q e = absurd (cc)
cut_next r zero (p ∷ ps) q e = let same : p ≡ q = cc in ap (λ (x : TypedProcedure). own_procedure r x ∷ map without_body ps) same
cut_next r (suc n) (p ∷ ps) q e = ap (λ (xs : List TypedProcedure). without_body p ∷ xs) (cut_next r n ps q e)

-- those before the one that keeps its body, that one, and those behind it
pub cut_is : (r : ℕ → ℕ) (n : ℕ) (ps : List TypedProcedure) (q : TypedProcedure) → slice_get ps n ≡ Some q →
    cut_procs r n ps ≡ map without_body (take n ps) ++ own_procedure r q ∷ map without_body (drop (n + 1) ps)
cut_is r n ps q e =
    let next : suc n ≡ n + 1 = omega arith in
    cut_next r n ps q e ∙ ap (λ (m : ℕ). map without_body (take n ps) ++ own_procedure r q ∷ map without_body (drop m ps)) next

map_take : {X Y : Type 0} (f : X → Y) (xs : List X) (n : ℕ) → map f (take n xs) ≡ take n (map f xs)
map_take f xs zero = refl
map_take f [] (suc n) = refl
map_take f (x ∷ xs) (suc n) = ap (λ (ys : List _). f x ∷ ys) (map_take f xs n)

map_drop : {X Y : Type 0} (f : X → Y) (xs : List X) (n : ℕ) → map f (drop n xs) ≡ drop n (map f xs)
map_drop f xs zero = refl
map_drop f [] (suc n) = refl
map_drop f (x ∷ xs) (suc n) = map_drop f xs n

-- a slice to the end
pub taken_rest : {X : Type 0} (xs : List X) (m : ℕ) → take (length xs - m) (drop m xs) ≡ drop m xs
taken_rest xs m = let many : length (drop m xs) ≡ length xs - m = length-drop m xs in take_all (length xs - m) (drop m xs) (omega arith)

-- the list that is made of them, with the copy last
pub cut_made : {X : Type 0} (f : X → TypedProcedure) (r : ℕ → ℕ) (ps : List X) (n : ℕ) (m0 m1 m2 m3 m4 : List X) (x y own copy : X) → n < length ps → x ≡ get_or ps n x → y ≡ get_or ps n y → m0 ≡ [] →
    map f m1 ≡ map f m0 ++ map without_body (map f (take n ps)) → f own ≡ own_procedure r (f x) → m2 ≡ m1 ++ own ∷ [] →
    map f m3 ≡ map f m2 ++ map without_body (map f (drop (n + 1) ps)) → f copy ≡ copy_of (f y) → m4 ≡ m3 ++ copy ∷ [] →
    map f m4 ≡ cut_procs r n (map f ps) ++ copies (slice_get (map f ps) n)
cut_made f r ps n m0 m1 m2 m3 m4 x y own copy l x_is y_is e0 e1 own_is e2 e3 copy_is e4 =
    let at_x : slice_get ps n ≡ Some x = slice_get_read ps (length ps) n x refl l x_is in
    let at_y : slice_get ps n ≡ Some y = slice_get_read ps (length ps) n y refl l y_is in
    let one : Some y ≡ Some x = sym at_y ∙ at_x in
    let same : y ≡ x = cc in
    let q : TypedProcedure = f x in
    let found : slice_get (map f ps) n ≡ Some q = get_map f ps n x at_x in
    let before : List TypedProcedure = map without_body (take n (map f ps)) in
    let behind : List TypedProcedure = map without_body (drop (n + 1) (map f ps)) in
    let first : map f m1 ≡ before = e1 ∙ ap (λ (zs : List _). map f zs ++ map without_body (map f (take n ps))) e0 ∙ ap (map without_body) (map_take f ps n) in
    let second : map f m2 ≡ before ++ own_procedure r q ∷ [] = ap (map f) e2 ∙ map-append f m1 (own ∷ []) ∙ (λ i. first i ++ own_is i ∷ []) in
    let third : map f m3 ≡ (before ++ own_procedure r q ∷ []) ++ behind = e3 ∙ (λ i. second i ++ map without_body (map_drop f ps (n + 1) i)) in
    let last : f copy ≡ copy_of q = copy_is ∙ ap (λ z. copy_of (f z)) same in
    ap (map f) e4 ∙ map-append f m3 (copy ∷ []) ∙ (λ i. third i ++ last i ∷ [])
    ∙ ap (λ (zs : List TypedProcedure). zs ++ copy_of q ∷ []) (append_assoc before (own_procedure r q ∷ []) behind ∙ sym (cut_is r n (map f ps) q found))
    ∙ ap (λ (o : Option TypedProcedure). cut_procs r n (map f ps) ++ copies o) (sym found)

-- ---- a procedure with a body

record HasBody (o : Option TypedProcedure) : Type 0 where
  procedure : TypedProcedure
  body : TypedBlock
  is : o ≡ Some procedure
  has : procedure.body ≡ Some body

body_of : (o : Option TypedProcedure) → meets has_body o ≡ true → HasBody o
body_of None h = absurd (false≢true h)
body_of (Some q) h = by_body q.body refl h
  where
    by_body : (b : Option TypedBlock) → q.body ≡ b → meets (λ x. true) b ≡ true → HasBody (Some q)
    by_body None e h = absurd (false≢true h)
    by_body (Some b) e h = record { procedure = q; body = b; is = refl; has = e }

pub number_within : {X : Type 0} (f : X → TypedProcedure) (ps : List X) (n : ℕ) → meets has_body (slice_get (map f ps) n) ≡ true → n < length ps
number_within f ps n h =
    let b : HasBody (slice_get (map f ps) n) = body_of (slice_get (map f ps) n) h in
    let l : n < length (map f ps) = slice_get_within (map f ps) n b.procedure b.is in
    let same : length (map f ps) ≡ length ps = length-map ps f in
    omega arith

-- a valid program has few procedures
pub procedures_few : (t : TypedProgram) → IsTrue (is_valid t) → length t.procs < 2 ^ 32
procedures_few t valid = (valid_laws.numbers t valid).1

-- a part keeps the typing rules
pub part_typed : (t made : TypedProgram) (n : ℕ) → IsTrue (is_valid t) → list_all (λ p. is_name p.name) t.procs ≡ true → meets has_body (slice_get t.procs n) ≡ true → made ≡ procedure_part t n → is_typed made ≡ true
part_typed t made n valid names entered same =
    let b : HasBody (slice_get t.procs n) = body_of (slice_get t.procs n) entered in
    let typed : is_typed t ≡ true = (and_parts (is_typed t) (numbers_fit t) valid).0 in
    ap is_typed same ∙ parts_are_typed t n b.procedure b.body typed names b.is b.has

-- ---- the parts, one after another

drop_after : {X : Type 0} (xs : List X) (i : ℕ) (x : X) → slice_get xs i ≡ Some x → drop i xs ≡ x ∷ drop (suc i) xs
drop_after [] i x e = absurd (cc)
drop_after (y ∷ ys) zero x e = let same : y ≡ x = cc in ap (λ (z : _). z ∷ ys) same
drop_after (y ∷ ys) (suc i) x e = drop_after ys i x e

drop_next : {X : Type 0} (xs : List X) (i : ℕ) (x : X) → slice_get xs i ≡ Some x → drop i xs ≡ x ∷ drop (i + 1) xs
drop_next xs i x e = let next : suc i ≡ i + 1 = omega arith in drop_after xs i x e ∙ ap (λ (m : ℕ). x ∷ drop m xs) next

get_there : {X : Type 0} (xs : List X) (i : ℕ) → i < length xs → (x : X) × (slice_get xs i ≡ Some x)
get_there [] i h = absurd (omega arith)
get_there (x ∷ xs) zero h = (x, refl)
get_there (x ∷ xs) (suc i) h = get_there xs i (omega arith)

-- one more procedure
pub parts_more : {X : Type 0} (f : X → PlainPart) (t : TypedProgram) (i : ℕ) (old new : List X) (w : List PlainPart) → i < length t.procs → map f new ≡ map f old ++ part_at t i (slice_get t.procs i) →
    map f old ++ parts_from_number t i (drop i t.procs) ≡ w → map f new ++ parts_from_number t (i + 1) (drop (i + 1) t.procs) ≡ w
parts_more f t i old new w l n so_far =
    let here = get_there t.procs i l in
    let q : TypedProcedure = here.0 in
    let rest : List PlainPart = parts_from_number t (i + 1) (drop (i + 1) t.procs) in
    ap (λ (xs : List PlainPart). xs ++ rest) (n ∙ ap (λ (o : Option TypedProcedure). map f old ++ part_at t i o) here.1)
    ∙ append_assoc (map f old) (part_at t i (Some q)) rest
    ∙ sym (ap (λ (ps : List TypedProcedure). map f old ++ parts_from_number t i ps) (drop_next t.procs i q here.1))
    ∙ so_far

-- none is left
pub parts_end : {X : Type 0} (f : X → PlainPart) (t : TypedProgram) (i : ℕ) (old : List X) (w : List PlainPart) → length t.procs ≤ i → map f old ++ parts_from_number t i (drop i t.procs) ≡ w → map f old ≡ w
parts_end f t i old w l so_far = sym (append-nil (map f old)) ∙ sym (ap (λ (ps : List TypedProcedure). map f old ++ parts_from_number t i ps) (drop_all t.procs i l)) ∙ so_far
  where
    drop_all : (xs : List TypedProcedure) (i : ℕ) → length xs ≤ i → drop i xs ≡ []
    drop_all [] zero h = refl
    drop_all [] (suc i) h = refl
    drop_all (x ∷ xs) zero h = absurd (omega arith)
    drop_all (x ∷ xs) (suc i) h = drop_all xs i (omega arith)
