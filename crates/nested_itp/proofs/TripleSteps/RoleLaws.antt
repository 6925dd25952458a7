-- Sections that are added one after another, and their roles.
use Rattle.std.proofs.Common.{◌≡◌, ◌∙◌, ℕ, Bool, true, false, List, [], ◌∷◌, ◌++◌, map, append_assoc, refl, sym, ap, subst}
use Rattle.std.specs.Prelude.{Result, Ok, Err, OnOk, if◌then◌else◌}
use Rattle.std.proofs.lemmas.List.{append-nil}
use Rattle.nwa_base.specs.declared.letters.Letter.{Letter}
use Rattle.letter_acts.specs.Frames.{Columns}
use Rattle.letter_acts.specs.Invariant.{Graph, Take}
use Rattle.letter_acts.specs.Reading.{taken}
use Rattle.farkas_check.specs.Trees.{Tree}
use Rattle.nested_itp.specs.NestedRefutations.Refutations.{Role, target_tie, View}
use Rattle.nested_itp.specs.declared.triple_steps.sections.Tie.{Tie}
use Rattle.nested_itp.specs.declared.triple_steps.sections.Section.{Section}
use Rattle.nested_itp.specs.declared.triple_steps.sections.Section.TheVariants as sections
use Rattle.nested_itp.specs.TripleSteps.Sections.{tie_role, section_roles, roles_in, claims_in, AddsNoClaim, AddsRoles}

pub roles_joined : (g : Graph) (w : List Letter) (t : Tree) (v : View) (xs ys : List Section) → roles_in g w t v (xs ++ ys) ≡ roles_in g w t v xs ++ roles_in g w t v ys
roles_joined g w t v [] ys = refl
roles_joined g w t v (x ∷ xs) ys =
    ap (λ (l : List Role). section_roles g w t v x ++ l) (roles_joined g w t v xs ys) ∙ sym (append_assoc (section_roles g w t v x) (roles_in g w t v xs) (roles_in g w t v ys))

-- one more section
pub roles_pushed : (g : Graph) (w : List Letter) (t : Tree) (v : View) (old new : List Section) (s : Section) → new ≡ old ++ s ∷ [] →
    roles_in g w t v new ≡ roles_in g w t v old ++ section_roles g w t v s
roles_pushed g w t v old new s e =
    ap (roles_in g w t v) e ∙ roles_joined g w t v old (s ∷ []) ∙ ap (λ (l : List Role). roles_in g w t v old ++ l) (append-nil (section_roles g w t v s))

-- after roles that are known
pub then_roles : (x y old new : List Role) → old ≡ x → new ≡ old ++ y → new ≡ x ++ y
then_roles x y old new e f = f ∙ ap (λ (l : List Role). l ++ y) e

-- the same with a section
pub then_section : (g : Graph) (w : List Letter) (t : Tree) (v : View) (x y : List Role) (old new : List Section) (s : Section) → new ≡ old ++ s ∷ [] → section_roles g w t v s ≡ y →
    roles_in g w t v old ≡ x → roles_in g w t v new ≡ x ++ y
then_section g w t v x y old new s e f h = roles_pushed g w t v old new s e ∙ ap (λ (l : List Role). l ++ section_roles g w t v s) h ∙ ap (λ (l : List Role). x ++ l) f

-- where there was none
pub first_section : (g : Graph) (w : List Letter) (t : Tree) (v : View) (old new : List Section) (s : Section) → old ≡ [] → new ≡ old ++ s ∷ [] → roles_in g w t v new ≡ section_roles g w t v s
first_section g w t v old new s e f = roles_pushed g w t v old new s f ∙ ap (λ (l : List Section). roles_in g w t v l ++ section_roles g w t v s) e

-- ---- what is added

pub adds_none : (old : List Section) → AddsNoClaim old old
adds_none old = record { added = []; whole = sym (append-nil old); plain = refl }

pub adds_one : (old new : List Section) (s : Section) → new ≡ old ++ s ∷ [] → claims_in (s ∷ []) ≡ [] → AddsNoClaim old new
adds_one old new s e h = record { added = s ∷ []; whole = e; plain = h }

pub adds_section : (old new : List Section) (s : Section) (roles : List Role) → new ≡ old ++ s ∷ [] → claims_in (s ∷ []) ≡ [] →
    ((g : Graph) (w : List Letter) (t : Tree) (v : View) → section_roles g w t v s ≡ roles) → AddsRoles old new roles
adds_section old new s roles e h k = record {
  plain = adds_one old new s e h;
  roles = λ g w t v. roles_pushed g w t v old new s e ∙ ap (λ (l : List Role). roles_in g w t v old ++ l) (k g w t v);
}

-- behind sections that are no claim's
pub none_joined : (xs ys : List Section) → claims_in xs ≡ [] → claims_in (xs ++ ys) ≡ claims_in ys
none_joined [] ys h = refl
none_joined (sections.Claim i ∷ xs) ys h = absurd (cc)
none_joined (sections.Spare count ∷ xs) ys h = none_joined xs ys h
none_joined (sections.Rows first count ∷ xs) ys h = none_joined xs ys h
none_joined (sections.Tie tie ∷ xs) ys h = none_joined xs ys h

pub adds_more : (old now new : List Section) → AddsNoClaim old now → AddsNoClaim now new → AddsNoClaim old new
adds_more old now new a b = record {
  added = a.added ++ b.added;
  whole = b.whole ∙ ap (λ (l : List Section). l ++ b.added) a.whole ∙ append_assoc old a.added b.added;
  plain = none_joined a.added b.added a.plain ∙ b.plain;
}

ties_roles : {X : Type 0} (g : Graph) (w : List Letter) (t : Tree) (v : View) (h : X → Tie) (xs : List X) → roles_in g w t v (map (λ x. sections.Tie (h x)) xs) ≡ map (λ x. tie_role (h x)) xs
ties_roles g w t v h [] = refl
ties_roles {X} g w t v h (x ∷ xs) = ap (λ (l : List Role). tie_role (h x) ∷ l) (ties_roles g w t v h xs)

ties_plain : {X : Type 0} (h : X → Tie) (xs : List X) → claims_in (map (λ x. sections.Tie (h x)) xs) ≡ []
ties_plain h [] = refl
ties_plain h (x ∷ xs) = ties_plain h xs

-- a row that ties for each member of a list
pub adds_tied : {X : Type 0} (old new : List Section) (h : X → Tie) (xs : List X) → new ≡ old ++ map (λ x. sections.Tie (h x)) xs → AddsRoles old new (map (λ x. tie_role (h x)) xs)
adds_tied {X} old new h xs e = record {
  plain = record { added = map (λ x. sections.Tie (h x)) xs; whole = e; plain = ties_plain h xs };
  roles = λ g w t v. ap (roles_in g w t v) e ∙ roles_joined g w t v old (map (λ x. sections.Tie (h x)) xs) ∙ ap (λ (l : List Role). roles_in g w t v old ++ l) (ties_roles g w t v h xs);
}

pub adds_same : (old new : List Section) (a b : List Role) → a ≡ b → AddsRoles old new a → AddsRoles old new b
adds_same old new a b e h = subst (AddsRoles old new) e h

-- by a test
pub adds_then : (b : Bool) (old new : List Section) (x y : List Role) → b ≡ true → AddsRoles old new x → AddsRoles old new (if b then x else y)
adds_then b old new x y e h = subst (λ (c : Bool). AddsRoles old new (if c then x else y)) (sym e) h

pub adds_else : (b : Bool) (old new : List Section) (x y : List Role) → b ≡ false → AddsRoles old new y → AddsRoles old new (if b then x else y)
adds_else b old new x y e h = subst (λ (c : Bool). AddsRoles old new (if c then x else y)) (sym e) h

pub on_ok : {A E : Type 0} (P Q : Type 0) → (P → Q) → (r : Result A E) → OnOk r P → OnOk r Q
on_ok P Q f (Ok a) h = f h
on_ok P Q f (Err e) h = tt

-- each target takes a result
pub taken_targets : (caller callee : Columns) (ts rs : List ℕ) → Take caller callee ts rs → map target_tie ts ≡ map (λ (p : ℕ × ℕ). target_tie p.0) (taken ts rs)
taken_targets caller callee [] rs h = refl
taken_targets caller callee (t ∷ ts) [] h = absurd h
taken_targets caller callee (t ∷ ts) (r ∷ rs) h = ap (λ (l : List Role). target_tie t ∷ l) (taken_targets caller callee ts rs h.1)
