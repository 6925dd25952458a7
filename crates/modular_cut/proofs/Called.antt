-- The procedures of a part: what each call finds there, and which one keeps its body.
use Rattle.std.proofs.Common.{◌≡◌, ℕ, zero, suc, Bool, true, false, List, [], ◌∷◌, ◌++◌, map, length, Option, None, Some, slice_get, nat_eq, if◌then◌else◌, refl, sym, ap, subst, ◌∙◌, arith}
use Rattle.std.specs.List.{list_all}
use Rattle.std.proofs.lemmas.Bool.{and_parts, and_from}
use Rattle.std.proofs.lemmas.Bool.Decides.{nat_tests}
use Rattle.typed_tree.specs.TypedTree.{TypedProcedure, TypedProgram}
use Rattle.modular_cut.specs.Parts.{called_in, without_body, copy_of, own_procedure, cut_procs, copies, procedure_part}

-- The procedure is one like q, without body and with that name.
abbrev pub named_like : TypedProcedure → List ℕ → TypedProcedure
named_like q name = record q { name = name; body = None }

-- calls of procedure q find one like it under that number
pub record IsCallee (ps : List TypedProcedure) (f : ℕ) (q : TypedProcedure) : Type 0 where
  pub name : List ℕ
  pub is : slice_get ps f ≡ Some (named_like q name)

-- each call finds one like the procedure that it called
abbrev pub Renumbers : List TypedProcedure → List TypedProcedure → (ℕ → ℕ) → Type 0
Renumbers procs parts r = (f : ℕ) (q : TypedProcedure) → slice_get procs f ≡ Some q → IsCallee parts (r f) q

-- ---- lists

pub get_first : {X : Type 0} (xs ys : List X) (n : ℕ) (x : X) → slice_get xs n ≡ Some x → slice_get (xs ++ ys) n ≡ Some x
get_first [] ys n x e = absurd (cc)
get_first (y ∷ xs) ys zero x e = e
get_first (y ∷ xs) ys (suc n) x e = get_first xs ys n x e

get_next : {X : Type 0} (xs : List X) (x : X) → slice_get (xs ++ x ∷ []) (length xs) ≡ Some x
get_next [] x = refl
get_next (y ∷ xs) x = get_next xs x

pub get_map : {X Y : Type 0} (h : X → Y) (xs : List X) (n : ℕ) (x : X) → slice_get xs n ≡ Some x → slice_get (map h xs) n ≡ Some (h x)
get_map h [] n x e = absurd (cc)
get_map h (y ∷ xs) zero x e = let same : y ≡ x = cc in ap (λ z. Some (h z)) same
get_map h (y ∷ xs) (suc n) x e = get_map h xs n x e

-- ---- the procedures of a part

module _ (r : ℕ → ℕ) where
  pub cut_length : (n : ℕ) (ps : List TypedProcedure) → length (cut_procs r n ps) ≡ length ps
  cut_length n [] = refl
  cut_length zero (q ∷ qs) = ap suc (map_length qs)
    where
      map_length : (ps : List TypedProcedure) → length (map without_body ps) ≡ length ps
      map_length [] = refl
      map_length (p ∷ ps) = ap suc (map_length ps)
  cut_length (suc n) (q ∷ qs) = ap suc (cut_length n qs)

  -- the one that keeps its body
  pub cut_own : (n : ℕ) (ps : List TypedProcedure) (q : TypedProcedure) → slice_get ps n ≡ Some q → slice_get (cut_procs r n ps) n ≡ Some (own_procedure r q)
  cut_own n [] q e = absurd (cc)
  cut_own zero (p ∷ ps) q e = let same : p ≡ q = cc in ap (λ x. Some (own_procedure r x)) same
  cut_own (suc n) (p ∷ ps) q e = cut_own n ps q e

  -- another one
  pub cut_other : (n f : ℕ) (ps : List TypedProcedure) (q : TypedProcedure) → (f ≡ n → ⊥) → slice_get ps f ≡ Some q → slice_get (cut_procs r n ps) f ≡ Some (without_body q)
  cut_other n f [] q d e = absurd (cc)
  cut_other zero zero (p ∷ ps) q d e = absurd (d refl)
  cut_other zero (suc f) (p ∷ ps) q d e = get_map without_body ps f q e
  cut_other (suc n) zero (p ∷ ps) q d e = let same : p ≡ q = cc in ap (λ x. Some (without_body x)) same
  cut_other (suc n) (suc f) (p ∷ ps) q d e = cut_other n f ps q (λ same. d (ap suc same)) e

  -- what holds of each of them
  pub cut_all : (p new : TypedProcedure → Bool) → ((q : TypedProcedure) → p q ≡ true → new (without_body q) ≡ true) → ((q : TypedProcedure) → p q ≡ true → new (own_procedure r q) ≡ true) →
      (n : ℕ) (ps : List TypedProcedure) → list_all p ps ≡ true → list_all new (cut_procs r n ps) ≡ true
  cut_all p new bare own n [] h = refl
  cut_all p new bare own zero (q ∷ qs) h =
      let both = and_parts (p q) (list_all p qs) h in
      and_from (new (own_procedure r q)) (list_all new (map without_body qs)) (own q both.0) (map_all qs both.1)
    where
      map_all : (ps : List TypedProcedure) → list_all p ps ≡ true → list_all new (map without_body ps) ≡ true
      map_all [] h = refl
      map_all (x ∷ xs) h = let both = and_parts (p x) (list_all p xs) h in and_from (new (without_body x)) (list_all new (map without_body xs)) (bare x both.0) (map_all xs both.1)
  cut_all p new bare own (suc n) (q ∷ qs) h =
      let both = and_parts (p q) (list_all p qs) h in
      and_from (new (without_body q)) (list_all new (cut_procs r n qs)) (bare q both.0) (cut_all p new bare own n qs both.1)

  pub cut_names : (n : ℕ) (ps : List TypedProcedure) → map (λ p. p.name) (cut_procs r n ps) ≡ map (λ p. p.name) ps
  cut_names n [] = refl
  cut_names zero (q ∷ qs) = ap (λ (ns : List (List ℕ)). q.name ∷ ns) (bare_names qs)
    where
      bare_names : (ps : List TypedProcedure) → map (λ p. p.name) (map without_body ps) ≡ map (λ p. p.name) ps
      bare_names [] = refl
      bare_names (p ∷ ps) = ap (λ (ns : List (List ℕ)). p.name ∷ ns) (bare_names ps)
  cut_names (suc n) (q ∷ qs) = ap (λ (ns : List (List ℕ)). q.name ∷ ns) (cut_names n qs)

-- ---- the part of a procedure

-- the program with these procedures, begun at number n
abbrev pub part_program : TypedProgram → ℕ → List TypedProcedure → TypedProgram
part_program t n parts = record { globals = t.globals; axioms = t.axioms; procs = parts; entry = n }

module _ (t : TypedProgram) (n : ℕ) (q : TypedProcedure) (is : slice_get t.procs n ≡ Some q) where
  abbrev pub calls : ℕ → ℕ
  calls = called_in (length t.procs) n

  abbrev pub part_procs : List TypedProcedure
  part_procs = cut_procs calls n t.procs ++ copy_of q ∷ []

  pub procs_are : (procedure_part t n).procs ≡ part_procs
  procs_are = ap (λ (o : Option TypedProcedure). cut_procs calls n t.procs ++ copies o) is

  pub own_is : slice_get part_procs n ≡ Some (own_procedure calls q)
  own_is = get_first (cut_procs calls n t.procs) (copy_of q ∷ []) n (own_procedure calls q) (cut_own calls n t.procs q is)

  copy_is : slice_get part_procs (length t.procs) ≡ Some (copy_of q)
  copy_is = ap (slice_get part_procs) (sym (cut_length calls n t.procs)) ∙ get_next (cut_procs calls n t.procs) (copy_of q)

  pub renumbered : Renumbers t.procs part_procs calls
  renumbered f p e = by_test (nat_eq f n) refl
    where
      same_number : nat_eq f n ≡ true → f ≡ n
      same_number h = grind (arith, nat_tests)

      other_number : nat_eq f n ≡ false → f ≡ n → ⊥
      other_number h same = grind (arith, nat_tests)

      by_test : (b : Bool) → nat_eq f n ≡ b → IsCallee part_procs (calls f) p
      by_test true h =
          let to_copy : calls f ≡ length t.procs = ap (λ (x : Bool). if x then length t.procs else f) h in
          let one : Some p ≡ Some q = sym e ∙ ap (slice_get t.procs) (same_number h) ∙ is in
          let same : q ≡ p = cc in
          subst (IsCallee part_procs (calls f)) same (record { name = (copy_of q).name; is = ap (slice_get part_procs) to_copy ∙ copy_is })
      by_test false h =
          let stays : calls f ≡ f = ap (λ (x : Bool). if x then length t.procs else f) h in
          record {
            name = p.name;
            is = ap (slice_get part_procs) stays ∙ get_first (cut_procs calls n t.procs) (copy_of q ∷ []) f (without_body p) (cut_other calls n f t.procs p (other_number h) e);
          }
