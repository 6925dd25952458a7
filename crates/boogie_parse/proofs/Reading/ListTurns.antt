-- A loop over the items of a list with commas: what it has read, and what the turns that are left read from there.
use Rattle.std.proofs.Common.{◌≡◌, ℕ, suc, ◌+◌, ◌-◌, ◌<◌, List, [], ◌∷◌, ◌++◌, length, None, Some, Ok, Err, refl, ap, sym, ◌∙◌, subst, arith, append_assoc, length-append, map}
use Rattle.std.proofs.lemmas.List.{append-nil, map-append}
use Rattle.boogie_tree.specs.declared.span.Span.{Span}
use Rattle.boogie_parse.specs.declared.fault.Fault.{Fault}
use Rattle.boogie_parse.specs.declared.symbols.Fixed.TheVariants as fixed
use Rattle.boogie_parse.specs.declared.symbols.Symbol.{Symbol}
use Rattle.boogie_parse.specs.Reading.Outcomes.{Read, ReadResult, place_or, syntax_fault}
use Rattle.boogie_parse.specs.Reading.ListReading.{read, Possible, seen, with_front, more_by, separated, repeated}

-- the items so far, then what is read from the rest, are what the whole list reads
pub record Reached {X : Type 0} (xs : List X) (left whole : ReadResult (List X)) : Type 0 where
  pub reached : with_front xs left ≡ whole

pub with_front-nothing : {X : Type 0} (o : ReadResult (List X)) → with_front [] o ≡ o
with_front-nothing (Ok r) = refl
with_front-nothing (Err f) = refl

pub with_front-joined : {X : Type 0} (xs ys : List X) (o : ReadResult (List X)) → with_front (xs ++ ys) o ≡ with_front xs (with_front ys o)
with_front-joined xs ys (Ok r) = ap (λ zs. read zs r.rest) (append_assoc xs ys r.value)
with_front-joined xs ys (Err f) = refl

-- one turn more is left
pub turn_left : (n i : ℕ) → i < n → n - i ≡ suc (n - (i + 1))
turn_left n i h = omega arith

room_left : (n a b : ℕ) → n - (a + b) ≡ n - a - b
room_left n a b = omega arith

module _ {X : Type 0} (item : ℕ → List Symbol → ReadResult (List X)) (end : Span) where
  -- the turns that are left, from what was read so far
  abbrev pub left : ℕ → List X → ℕ → List Symbol → ReadResult (List X)
  left room xs turns ts = separated item end (room - length xs) turns ts

  pub begins : (room turns n : ℕ) (xs : List X) (ts : List Symbol) → xs ≡ [] → turns ≡ n → Reached xs (left room xs turns ts) (separated item end room n ts)
  begins room turns n xs ts none e =
      record { reached = rw (none, e) (with_front-nothing (separated item end (room - 0) n ts) ∙ (let h : room - 0 ≡ room = omega arith in ap (λ m. separated item end m n ts) h)) }

  turn : (room n i : ℕ) (xs : List X) (ts : List Symbol) (whole : ReadResult (List X)) → Reached xs (left room xs (n - i) ts) whole → i < n
      → with_front xs (separated item end (room - length xs) (suc (n - (i + 1))) ts) ≡ whole
  turn room n i xs ts whole r h = subst (λ k. with_front xs (separated item end (room - length xs) k ts) ≡ whole) (turn_left n i h) r.reached

  read_turn : (room n i m : ℕ) (xs ys : List X) (ts mid : List Symbol) (whole : ReadResult (List X)) → Reached xs (left room xs (n - i) ts) whole → i < n
      → m ≡ room - length xs → item m ts ≡ read ys mid
      → with_front xs (more_by (separated item end (room - length xs - length ys) (n - (i + 1))) ys mid (seen fixed.Comma mid)) ≡ whole
  unfolding separated
  read_turn room n i m xs ys ts mid whole r h e s = let t = turn room n i xs ts whole r h in let u = rw e at s in rw u at t

  pub goes : (room n i m : ℕ) (xs ys zs : List X) (ts mid : List Symbol) (whole : ReadResult (List X)) (comma : Read Span)
      → Reached xs (left room xs (n - i) ts) whole → i < n → m ≡ room - length xs → item m ts ≡ read ys mid → Some comma ≡ seen fixed.Comma mid → zs ≡ xs ++ ys
      → Reached zs (left room zs (n - (i + 1)) comma.rest) whole
  goes room n i m xs ys zs ts mid whole comma r h k s e z =
      let t = read_turn room n i m xs ys ts mid whole r h k s in
      let u = rw (sym e) at t in
      let sizes : room - length (xs ++ ys) ≡ room - length xs - length ys = rw length-append (room_left room (length xs) (length ys)) in
      record { reached = rw (z, sizes) (with_front-joined xs ys (separated item end (room - length xs - length ys) (n - (i + 1)) comma.rest) ∙ u) }

  pub ends : (room n i m : ℕ) (xs ys zs : List X) (ts mid : List Symbol) (whole : ReadResult (List X))
      → Reached xs (left room xs (n - i) ts) whole → i < n → m ≡ room - length xs → item m ts ≡ read ys mid → None ≡ seen fixed.Comma mid → zs ≡ xs ++ ys
      → whole ≡ read zs mid
  ends room n i m xs ys zs ts mid whole r h k s e z =
      let t = read_turn room n i m xs ys ts mid whole r h k s in
      let u = rw (sym e) at t in rw z (sym u)

  pub faults : (room n i m : ℕ) (xs : List X) (ts : List Symbol) (whole : ReadResult (List X)) (f : Fault)
      → Reached xs (left room xs (n - i) ts) whole → i < n → m ≡ room - length xs → item m ts ≡ Err f → whole ≡ Err f
  unfolding separated
  faults room n i m xs ts whole f r h e s = let t = turn room n i xs ts whole r h in let u = rw e at s in sym (rw u at t)

  pub exhausted : (room turns : ℕ) (xs : List X) (ts : List Symbol) (whole : ReadResult (List X))
      → Reached xs (left room xs turns ts) whole → turns ≡ 0 → whole ≡ Err (syntax_fault (place_or end ts))
  unfolding separated
  exhausted room turns xs ts whole r e = let t = rw e at r.reached in sym t

-- one more in the code is one more in what contracts see
pub map-pushed : {C X : Type 0} (view : C → X) (xs ys : List C) (x : C) → ys ≡ xs ++ x ∷ [] → map view ys ≡ map view xs ++ view x ∷ []
map-pushed view xs ys x e = rw (e, map-append) refl

-- one more that is made, as what contracts see
pub made-pushed : {A B X : Type 0} (view : A → X) (make : B → X) (done new : List A) (taken : List B) (a : A) (b : B)
    → map view done ≡ map make taken → new ≡ done ++ a ∷ [] → view a ≡ make b → map view new ≡ map make (taken ++ b ∷ [])
made-pushed view make done new taken a b h e same =
    map-pushed view done new a e ∙ ap (λ xs. xs ++ view a ∷ []) h ∙ ap (λ x. map make taken ++ x ∷ []) same ∙ sym (map-append make taken (b ∷ []))

-- one more that is made
pub listed-pushed : {A B : Type 0} (make : B → A) (done new : List A) (taken : List B) (b : B) → done ≡ map make taken → new ≡ done ++ make b ∷ [] → new ≡ map make (taken ++ b ∷ [])
listed-pushed make done new taken b h e = e ∙ ap (λ xs. xs ++ make b ∷ []) h ∙ sym (map-append make taken (b ∷ []))

-- how many there are in items adds up
pub record AddsUp {X : Type 0} (used : List X → ℕ) : Type 0 where
  pub none : used [] ≡ 0
  pub joined : (xs ys : List X) → used (xs ++ ys) ≡ used xs + used ys

pub length-adds : {X : Type 0} → AddsUp (λ (xs : List X). length xs)
length-adds {X} = record { none = refl; joined = λ xs ys. length-append xs ys }

module _ {X : Type 0} (item : ℕ → List Symbol → Possible (List X)) (used : List X → ℕ) where
  -- the turns that are left, from what was read so far
  abbrev pub remaining : ℕ → List X → ℕ → List Symbol → ReadResult (List X)
  remaining room xs turns ts = repeated item used (room - used xs) turns ts

  pub starts : AddsUp used → (room turns n : ℕ) (xs : List X) (ts : List Symbol) → xs ≡ [] → turns ≡ n
      → Reached xs (remaining room xs turns ts) (repeated item used room n ts)
  starts adds room turns n xs ts none e =
      let h : room - 0 ≡ room = omega arith in
      let k : room - used [] ≡ room = rw adds.none h in
      record { reached = rw (none, e, k) (with_front-nothing (repeated item used room n ts)) }

  next_turn : (room n i : ℕ) (xs : List X) (ts : List Symbol) (whole : ReadResult (List X)) → Reached xs (remaining room xs (n - i) ts) whole → i < n
      → with_front xs (repeated item used (room - used xs) (suc (n - (i + 1))) ts) ≡ whole
  next_turn room n i xs ts whole r h = subst (λ k. with_front xs (repeated item used (room - used xs) k ts) ≡ whole) (turn_left n i h) r.reached

  pub continues : AddsUp used → (room n i m : ℕ) (xs ys zs : List X) (ts mid : List Symbol) (whole : ReadResult (List X))
      → Reached xs (remaining room xs (n - i) ts) whole → i < n → m ≡ room - used xs → item m ts ≡ Ok (Some (record { value = ys; rest = mid })) → zs ≡ xs ++ ys
      → Reached zs (remaining room zs (n - (i + 1)) mid) whole
  unfolding repeated
  continues adds room n i m xs ys zs ts mid whole r h e s z =
      let t = next_turn room n i xs ts whole r h in
      let u = rw e at s in
      let v = rw u at t in
      let sizes : room - used (xs ++ ys) ≡ room - used xs - used ys = rw (adds.joined xs ys) (room_left room (used xs) (used ys)) in
      record { reached = rw (z, sizes) (with_front-joined xs ys (repeated item used (room - used xs - used ys) (n - (i + 1)) mid) ∙ v) }

  pub stops : (room n i m : ℕ) (xs : List X) (ts : List Symbol) (whole : ReadResult (List X))
      → Reached xs (remaining room xs (n - i) ts) whole → i < n → m ≡ room - used xs → item m ts ≡ Ok None → whole ≡ read xs ts
  unfolding repeated
  stops room n i m xs ts whole r h e s =
      let t = next_turn room n i xs ts whole r h in
      let u = rw e at s in
      let v = rw u at t in sym v ∙ ap (λ ys. read ys ts) (append-nil xs)

  pub fails : (room n i m : ℕ) (xs : List X) (ts : List Symbol) (whole : ReadResult (List X)) (f : Fault)
      → Reached xs (remaining room xs (n - i) ts) whole → i < n → m ≡ room - used xs → item m ts ≡ Err f → whole ≡ Err f
  unfolding repeated
  fails room n i m xs ts whole f r h e s = let t = next_turn room n i xs ts whole r h in let u = rw e at s in sym (rw u at t)

  pub completes : (room turns : ℕ) (xs : List X) (ts : List Symbol) (whole : ReadResult (List X))
      → Reached xs (remaining room xs turns ts) whole → turns ≡ 0 → whole ≡ read xs ts
  unfolding repeated
  completes room turns xs ts whole r e = let t = rw e at r.reached in sym t ∙ ap (λ ys. read ys ts) (append-nil xs)
