use Rattle.std.proofs.Common.{◌≡◌, ◌∙◌, ℕ, ◌+◌, List, [], ◌∷◌, ◌++◌, length, append_assoc, sym, ap, arith}
use Rattle.std.specs.Prelude.{slice_get}
use Rattle.std.proofs.lemmas.List.{append-nil}
use Rattle.nwa_base.specs.declared.letters.Letter.{Letter}
use Rattle.letter_acts.specs.Invariant.{Graph}
use Rattle.letter_acts.specs.FrameRows.Rows.{bounds, types_at}
use Rattle.farkas_check.specs.Trees.{Tree}
use Rattle.nested_itp.specs.NestedRefutations.Refutations.{Role, View}
use Rattle.nested_itp.specs.NestedRefutations.Numbers.{branch_rows}
use Rattle.nested_itp.specs.declared.triple_steps.sections.Section.{Section}
use Rattle.nested_itp.specs.declared.triple_steps.sections.Section.TheVariants.{Claim, Spare, Rows, Tie}
use Rattle.nested_itp.specs.TripleSteps.Sections.{claim_roles, section_roles, roles_in, claims_in, gaps_in, ClaimsStand}
use Rattle.nested_itp.proofs.triple_steps.letters.inside_sections.Goals as goal

-- the roles of five groups of rows
five_joined : (a b c d e : List Role) → a ++ (b ++ (c ++ (d ++ (e ++ [])))) ≡ (((a ++ b) ++ c) ++ d) ++ e
five_joined a b c d e =
    ap (λ (l : List Role). a ++ (b ++ (c ++ (d ++ l)))) (append-nil e) ∙ sym (append_assoc a b (c ++ (d ++ e))) ∙ sym (append_assoc (a ++ b) c (d ++ e)) ∙ sym (append_assoc ((a ++ b) ++ c) d e)

roles_five : (g : Graph) (w : List Letter) (t : Tree) (v : View) (ss : List Section) (before : Section) (own rows first row count n : ℕ) (b : List Role) →
    ss ≡ Claim 0 ∷ Rows own rows ∷ Claim 1 ∷ before ∷ Rows first count ∷ [] → section_roles g w t v before ≡ b → first ≡ row → count ≡ n →
    roles_in g w t v ss ≡ (((claim_roles g w t v 0 (slice_get v.claims 0) ++ branch_rows own rows) ++ claim_roles g w t v 1 (slice_get v.claims 1)) ++ b) ++ branch_rows row n
roles_five g w t v ss before own rows first row count n b e h f k =
    let x : List Role = claim_roles g w t v 0 (slice_get v.claims 0) in
    let y : List Role = claim_roles g w t v 1 (slice_get v.claims 1) in
    let z : List Role = branch_rows own rows in
    ap (roles_in g w t v) e ∙ five_joined x z y (section_roles g w t v before) (branch_rows first count) ∙
    ap (λ (l : List Role). (((x ++ z) ++ y) ++ l) ++ branch_rows first count) h ∙
    ap (λ (m : ℕ). (((x ++ z) ++ y) ++ b) ++ branch_rows m count) f ∙ ap (λ (m : ℕ). (((x ++ z) ++ y) ++ b) ++ branch_rows row m) k

-- the rows of the two claims among them
stand_two : (ss : List Section) (before : Section) (own rows first count : ℕ) → ss ≡ Claim 0 ∷ Rows own rows ∷ Claim 1 ∷ before ∷ Rows first count ∷ [] → claims_in (before ∷ []) ≡ [] →
    ClaimsStand ss (0 ∷ 1 ∷ []) (0 ∷ rows ∷ [])
stand_two ss (Claim i) own rows first count e h = absurd (cc)
stand_two ss (Spare n) own rows first count e h =
    record { order = ap claims_in e; gaps = ap (gaps_in 0) e ∙ ap (λ (n : ℕ). 0 ∷ n ∷ []) (let z : 0 + rows ≡ rows = omega arith in z) }
stand_two ss (Rows m n) own rows first count e h =
    record { order = ap claims_in e; gaps = ap (gaps_in 0) e ∙ ap (λ (n : ℕ). 0 ∷ n ∷ []) (let z : 0 + rows ≡ rows = omega arith in z) }
stand_two ss (Tie k) own rows first count e h =
    record { order = ap claims_in e; gaps = ap (gaps_in 0) e ∙ ap (λ (n : ℕ). 0 ∷ n ∷ []) (let z : 0 + rows ≡ rows = omega arith in z) }

pub returns-clause-roles : goal.returns-clause-roles
returns-clause-roles c = λ g w t v.
    roles_five g w t v c.in_ok-vec.field-0.items c.before_bounds-before.result c.args.reading.now.rows c.args.rows c.in_ok-first.first (c.args.reading.now.rows + c.args.rows) c.bounds_at-count.result
    (length (bounds 0 (types_at c.args.frame.now c.args.written.now))) _ c.in_ok-vec.ensures.items (c.before_bounds-before.ensures.roles g w t v) c.in_ok-first.ensures c.bounds_at-count.ensures

pub returns-clause-stand : goal.returns-clause-stand
returns-clause-stand c =
    stand_two c.in_ok-vec.field-0.items c.before_bounds-before.result c.args.reading.now.rows c.args.rows c.in_ok-first.first c.bounds_at-count.result c.in_ok-vec.ensures.items c.before_bounds-before.ensures.plain
