use Rattle.std.proofs.Common.{to_z, ◌≡◌, ◌∙◌, ◌%◌, ◌^◌, ◌<◌, ℕ, pos, FitsSigned, true, sym, subst, rules, arith}
use Rattle.std.specs.Int.{w128, int_div_euclid}
use Rattle.std.specs.Prelude.{unsigned_abs}
use Rattle.std.proofs.lemmas.Int.{to_z-of_z, to_z_pos, ints}
use Rattle.std.proofs.lemmas.Bool.{false≢true}
use Rattle.lin_rows.specs.declared.types.RowKind.TheVariants.{Eq}
use Rattle.lin_rows.specs.Rows.{LinearRow, IsRow}
use Rattle.lin_rows.specs.Tightening.{content, divided, tightened, all_divisible}
use Rattle.lin_rows.proofs.TighteningLaw.{holds_tightened, never_is_row, tightened_is_row, content_fits, content_divides}
use Rattle.lin_rows.proofs.TighteningLemmas.{tightened_stays, tightened_divided}
use Rattle.lin_rows.proofs.tightening.tighten.Goals as goal
use Rattle.lin_rows.proofs.tightening.tighten.Goals.{else-eq-via-then-eq+else-unsigned_abs-divisor-ne0, else-eq-via-else-eq, After-content-divisor, After-bound, After-new-then-unsigned_abs-divisor-ne0, After-div_euclid, Joined-else-eq}

content_of : (c : After-content-divisor) → content c.args.row.now.terms ≡ c.content-divisor.result
content_of c = rw c.terms.ensures.value at (sym c.content-divisor.ensures)

content_below : (c : After-content-divisor) → c.content-divisor.result < 2 ^ 127
content_below c = rw (content_of c) at (content_fits c.args.row.now.terms c.terms.ensures.valid.coefficients)

-- the bound of an equality is divisible
exact_of : (c : Joined-else-eq) → c.args.row.now.kind ≡ Eq → unsigned_abs c.args.row.now.bound % c.content-divisor.result ≡ 0
exact_of c =
    elim c.else-eq.branch [
      | else-eq-via-then-eq+else-unsigned_abs-divisor-ne0 w ↦ λ e.
          let f : FitsSigned w128 w.bound-then-eq.result = search rules in
          rw (simp to_z-of_z at w.unsigned_abs.ensures.value, w.bound-then-eq.ensures) at w.if-unsigned_abs-divisor-ne0.false
      | else-eq-via-else-eq w ↦ λ e. let h = rw (c.kind-2.ensures, e) at c.eq.ensures in absurd (false≢true (sym w.if-eq.false ∙ h))
    ]

pub returns-then-divisor-le1-clause-value : goal.returns-then-divisor-le1-clause-value
returns-then-divisor-le1-clause-value c =
    let f : FitsSigned w128 c.bound.result = search rules in
    (rw (c.in_ok-terms.ensures, c.terms-then-divisor-le1.ensures.value, c.kind.ensures, c.bound.ensures) at (simp to_z-of_z at c.new.ensures)) ∙
    sym (tightened_stays c.args.row.now (rw (content_of (goal.at.returns-then-divisor-le1-clause-value c).After-content-divisor) c.if-divisor-le1.true))

pub returns-then-divisor-le1-clause-same_points : goal.returns-then-divisor-le1-clause-same_points
returns-then-divisor-le1-clause-same_points c = λ point. holds_tightened point c.args.row.now c.terms.ensures.valid

pub returns-then-unsigned_abs-divisor-ne0-clause-same_points :
    goal.returns-then-unsigned_abs-divisor-ne0-clause-same_points
returns-then-unsigned_abs-divisor-ne0-clause-same_points c = λ point. holds_tightened point c.args.row.now c.terms.ensures.valid

pub overflow_cast-divisor : goal.overflow_cast-divisor
overflow_cast-divisor c = record { sfits = content_below (goal.at.overflow_cast-divisor c).After-content-divisor }

pub divided-requires-clause-positive : goal.divided-requires-clause-positive
divided-requires-clause-positive c =
    let l : c.content-divisor.result < 2 ^ 127 = content_below (goal.at.divided-requires-clause-positive c).After-content-divisor in
    rw (to_z_pos w128 c.content-divisor.result l) (omega (arith, ints))

pub divided-requires-clause-divides : goal.divided-requires-clause-divides
divided-requires-clause-divides c =
    let l : c.content-divisor.result < 2 ^ 127 = content_below (goal.at.divided-requires-clause-divides c).After-content-divisor in
    let e : content c.args.row.now.terms ≡ c.content-divisor.result = content_of (goal.at.divided-requires-clause-divides c).After-content-divisor in
    rw (to_z_pos w128 c.content-divisor.result l, c.terms-2.ensures.value)
    (subst (λ (n : ℕ). all_divisible n c.args.row.now.terms ≡ true) e (content_divides c.args.row.now.terms (omega arith)))

-- the parts of the row that is divided
parts_of : (c : After-div_euclid) → content c.args.row.now.terms ≡ c.content-divisor.result → c.content-divisor.result < 2 ^ 127 →
    (c.args.row.now.kind ≡ Eq → unsigned_abs c.args.row.now.bound % c.content-divisor.result ≡ 0) →
    ◌≡◌ {A = LinearRow} (record { terms = c.in_ok-terms-2.terms.items; kind = c.kind-3.result; bound = c.div_euclid.result }) (tightened c.args.row.now)
parts_of c e l exact =
    let g : ℕ = c.content-divisor.result in
    let f : FitsSigned w128 c.bound-2.result = search rules in
    let p : to_z w128 c.content-divisor.result ≡ pos c.content-divisor.result =
    to_z_pos w128 c.content-divisor.result l in
    let t : c.in_ok-terms-2.terms.items ≡ divided g c.args.row.now.terms = rw (p, c.terms-2.ensures.value) at c.in_ok-terms-2.ensures in
    let b : c.div_euclid.result ≡ int_div_euclid c.args.row.now.bound (pos g) = rw (p, c.bound-2.ensures) at (simp to_z-of_z at c.div_euclid.ensures) in
    (λ i. record { terms = t i; kind = c.kind-3.ensures i; bound = b i }) ∙
    sym (tightened_divided c.args.row.now g e (omega arith) exact)

pub new-requires-2 : goal.new-requires-2
new-requires-2 c =
    let p = goal.at.new-requires-2 c in
    let f : FitsSigned w128 c.div_euclid.result = search rules in
    simp to_z-of_z (subst IsRow (sym (parts_of p.After-div_euclid (content_of p.After-content-divisor) (content_below p.After-content-divisor) (exact_of p.Joined-else-eq))) (tightened_is_row c.args.row.now c.terms.ensures.valid))

pub returns-clause-value : goal.returns-clause-value
returns-clause-value c =
    let p = goal.at.returns-clause-value c in
    let f : FitsSigned w128 c.div_euclid.result = search rules in
    (simp to_z-of_z at c.new-2.ensures) ∙ parts_of p.After-div_euclid (content_of p.After-content-divisor) (content_below p.After-content-divisor) (exact_of p.Joined-else-eq)

pub returns-clause-same_points : goal.returns-clause-same_points
returns-clause-same_points c = λ point. holds_tightened point c.args.row.now c.terms.ensures.valid

pub new-requires : goal.new-requires
new-requires c =
    let f : FitsSigned w128 c.bound.result = search rules in
    simp to_z-of_z (rw (c.in_ok-terms.ensures, c.terms-then-divisor-le1.ensures.value, c.kind.ensures, c.bound.ensures) c.terms.ensures.valid)

pub returns-then-divisor-le1-clause-valid : goal.returns-then-divisor-le1-clause-valid
returns-then-divisor-le1-clause-valid c =
    subst IsRow (sym c.new.ensures) (new-requires (goal.at.returns-then-divisor-le1-clause-valid c).After-bound)

pub new-requires-then-unsigned_abs-divisor-ne0-2 : goal.new-requires-then-unsigned_abs-divisor-ne0-2
new-requires-then-unsigned_abs-divisor-ne0-2 c = rw c.new-then-unsigned_abs-divisor-ne0.ensures.items never_is_row

pub returns-then-unsigned_abs-divisor-ne0-clause-valid : goal.returns-then-unsigned_abs-divisor-ne0-clause-valid
returns-then-unsigned_abs-divisor-ne0-clause-valid c =
    subst IsRow (sym c.new-then-unsigned_abs-divisor-ne0-2.ensures)
    (new-requires-then-unsigned_abs-divisor-ne0-2 (goal.at.returns-then-unsigned_abs-divisor-ne0-clause-valid c).After-new-then-unsigned_abs-divisor-ne0)

pub returns-clause-valid : goal.returns-clause-valid
returns-clause-valid c = subst IsRow (sym c.new-2.ensures) (new-requires-2 (goal.at.returns-clause-valid c).After-div_euclid)
