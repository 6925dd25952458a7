-- Where the rows of the claims stand, as sections are added one after another.
use Rattle.std.proofs.Common.{◌≡◌, ◌∙◌, ℕ, zero, suc, ◌+◌, Bool, true, false, List, [], ◌∷◌, ◌++◌, length, append_assoc, length-append, refl, sym, ap, arith}
use Rattle.std.specs.Prelude.{if◌then◌else◌}
use Rattle.std.proofs.lemmas.List.{append-nil, length-map}
use Rattle.letter_acts.specs.Invariant.{Graph}
use Rattle.letter_acts.specs.FrameRows.Rows.{columns_from}
use Rattle.farkas_check.specs.Trees.{leaf_tree}
use Rattle.nested_itp.specs.NestedRefutations.Refutations.{Role, spare, branch_row, View}
use Rattle.nested_itp.specs.NestedRefutations.Numbers.{spares, branch_rows}
use Rattle.nested_itp.specs.declared.triple_steps.sections.Section.{Section}
use Rattle.nested_itp.specs.declared.triple_steps.sections.Section.TheVariants as sections
use Rattle.nested_itp.specs.TripleSteps.Sections.{section_roles, roles_in, gaps_in, claims_in, ClaimsStand, AddsRoles}
use Rattle.nested_itp.proofs.TripleSteps.RoleLaws.{roles_joined, none_joined}

-- ---- how many rows there are

columns_counted : (first n : ℕ) → length (columns_from first n) ≡ n
columns_counted first zero = refl
columns_counted first (suc n) = ap suc (columns_counted (suc first) n)

pub spares_counted : (n : ℕ) → length (spares n) ≡ n
spares_counted n = length-map (columns_from 0 n) (λ r. spare) ∙ columns_counted 0 n

pub rows_counted : (first n : ℕ) → length (branch_rows first n) ≡ n
rows_counted first n = length-map (columns_from first n) branch_row ∙ columns_counted first n

-- either way
pub either_counted : (b : Bool) (x y : List Role) (n : ℕ) → length x ≡ n → length y ≡ n → length (if b then x else y) ≡ n
either_counted true x y n e f = e
either_counted false x y n e f = f

-- a graph and a view without any claim: each row is then of a section that is no claim's
no_graph : Graph
no_graph = record {
  automaton = record { states = 0; start = 0; finals = []; insides = []; calls = []; backs = [] };
  acts = [];
  marks = [];
  frames = [];
  names = [];
  place_procs = [];
  entries = [];
  exits = [];
  sites = [];
}

no_view : View
no_view = record { columns = []; claims = []; returns = false; column = λ c. c }

count_in : List Section → ℕ
count_in ss = length (roles_in no_graph [] (leaf_tree []) no_view ss)

count_first : (s : Section) (ss : List Section) (n : ℕ) → length (section_roles no_graph [] (leaf_tree []) no_view s) ≡ n → count_in (s ∷ ss) ≡ n + count_in ss
unfolding count_in
count_first s ss n e = length-append (section_roles no_graph [] (leaf_tree []) no_view s) (roles_in no_graph [] (leaf_tree []) no_view ss) ∙ ap (λ (x : ℕ). x + count_in ss) e

-- ---- what stands behind sections that are no claim's

gaps_behind : (k : ℕ) (ss more : List Section) → claims_in ss ≡ [] → gaps_in k (ss ++ more) ≡ gaps_in (k + count_in ss) more
unfolding count_in
gaps_behind k [] more h = ap (λ (n : ℕ). gaps_in n more) (let e : k ≡ k + 0 = omega arith in e)
gaps_behind k (sections.Claim i ∷ ss) more h = absurd (cc)
gaps_behind k (sections.Spare count ∷ ss) more h =
    gaps_behind (k + count) ss more h ∙
    ap (λ (n : ℕ). gaps_in n more) (let c = count_first (sections.Spare count) ss count (spares_counted count) in let e : k + count + count_in ss ≡ k + count_in (sections.Spare count ∷ ss) = omega (arith, c) in e)
gaps_behind k (sections.Rows first count ∷ ss) more h =
    gaps_behind (k + count) ss more h ∙
    ap (λ (n : ℕ). gaps_in n more)
    (let c = count_first (sections.Rows first count) ss count (rows_counted first count) in let e : k + count + count_in ss ≡ k + count_in (sections.Rows first count ∷ ss) = omega (arith, c) in e)
gaps_behind k (sections.Tie tie ∷ ss) more h =
    gaps_behind (k + 1) ss more h ∙
    ap (λ (n : ℕ). gaps_in n more) (let c = count_first (sections.Tie tie) ss 1 refl in let e : k + 1 + count_in ss ≡ k + count_in (sections.Tie tie ∷ ss) = omega (arith, c) in e)

-- ---- one section after another

-- these claims stand there, so many rows before those of each, and so many rows behind the last
pub record Stands (ss : List Section) (claims counts : List ℕ) (k : ℕ) : Type 0 where
  pub order : (more : List Section) → claims_in (ss ++ more) ≡ claims ++ claims_in more
  pub gaps : (more : List Section) → gaps_in 0 (ss ++ more) ≡ counts ++ gaps_in k more

pub first_stands : (ss : List Section) → ss ≡ [] → Stands ss [] [] 0
first_stands ss e = record {
  order = λ more. ap (λ (l : List Section). claims_in (l ++ more)) e;
  gaps = λ more. ap (λ (l : List Section). gaps_in 0 (l ++ more)) e;
}

pub claim_stands : (old new : List Section) (claims gaps : List ℕ) (k i : ℕ) → new ≡ old ++ sections.Claim i ∷ [] → Stands old claims gaps k → Stands new (claims ++ i ∷ []) (gaps ++ k ∷ []) 0
claim_stands old new claims gaps k i e h = record {
  order = λ more.
      ap (λ (l : List Section). claims_in (l ++ more)) e ∙ ap claims_in (append_assoc old (sections.Claim i ∷ []) more) ∙ h.order (sections.Claim i ∷ more) ∙
      sym (append_assoc claims (i ∷ []) (claims_in more));
  gaps = λ more.
      ap (λ (l : List Section). gaps_in 0 (l ++ more)) e ∙ ap (gaps_in 0) (append_assoc old (sections.Claim i ∷ []) more) ∙ h.gaps (sections.Claim i ∷ more) ∙
      sym (append_assoc gaps (k ∷ []) (gaps_in 0 more));
}

added_counted : (old new : List Section) (roles : List Role) (n : ℕ) (h : AddsRoles old new roles) → length roles ≡ n → count_in h.plain.added ≡ n
unfolding count_in
added_counted old new roles n h e =
    let r : List Section → List Role = roles_in no_graph [] (leaf_tree []) no_view in
    let a : length (r new) ≡ length (r old ++ roles) = ap (λ (l : List Role). length l) (h.roles no_graph [] (leaf_tree []) no_view) in
    let b : length (r new) ≡ length (r old ++ r h.plain.added) =
    ap (λ (l : List Section). length (r l)) h.plain.whole ∙ ap (λ (l : List Role). length l) (roles_joined no_graph [] (leaf_tree []) no_view old h.plain.added) in
    let c = length-append (r old) roles in
    let d = length-append (r old) (r h.plain.added) in
    omega (arith, a, b, c, d, e)

pub rows_stand : (old new : List Section) (claims gaps : List ℕ) (k n : ℕ) (roles : List Role) → AddsRoles old new roles → length roles ≡ n → Stands old claims gaps k → Stands new claims gaps (k + n)
rows_stand old new claims gaps k n roles a e h = record {
  order = λ more.
      ap (λ (l : List Section). claims_in (l ++ more)) a.plain.whole ∙ ap claims_in (append_assoc old a.plain.added more) ∙ h.order (a.plain.added ++ more) ∙
      ap (λ (l : List ℕ). claims ++ l) (none_joined a.plain.added more a.plain.plain);
  gaps = λ more.
      ap (λ (l : List Section). gaps_in 0 (l ++ more)) a.plain.whole ∙ ap (gaps_in 0) (append_assoc old a.plain.added more) ∙ h.gaps (a.plain.added ++ more) ∙
      ap (λ (l : List ℕ). gaps ++ l) (gaps_behind k a.plain.added more a.plain.plain) ∙
      ap (λ (m : ℕ). gaps ++ gaps_in (k + m) more) (added_counted old new roles n a e);
}

pub all_stand : (ss : List Section) (claims gaps known : List ℕ) (k : ℕ) → gaps ≡ known → Stands ss claims gaps k → ClaimsStand ss claims known
all_stand ss claims gaps known k e h = record {
  order = sym (ap claims_in (append-nil ss)) ∙ h.order [] ∙ append-nil claims;
  gaps = sym (ap (gaps_in 0) (append-nil ss)) ∙ h.gaps [] ∙ append-nil gaps ∙ e;
}
