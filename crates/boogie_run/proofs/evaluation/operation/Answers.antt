use Rattle.std.proofs.Common.{◌≡◌, ◌∙◌, ◌+ℤ◌, ◌-ℤ◌, ◌*ℤ◌, pos, FitsSigned, to_z, refl, ap, sym, rules, arith}
use Rattle.std.specs.Prelude.{int_lt, int_le, SomeIff}
use Rattle.std.specs.Int.{w128}
use Rattle.std.proofs.lemmas.Int.{to_z-of_z}
use Rattle.math_facts.specs.Fits.{Fits}
use Rattle.typed_tree.specs.Values.{truth, div_of, mod_of}
use Rattle.boogie_run.proofs.ValueSteps.{told_truth, told_fitting, told_checked}
use Rattle.boogie_run.proofs.evaluation.operation.Goals as goal

pub returns-in-Lt : goal.returns-in-Lt
returns-in-Lt c =
    let f : FitsSigned w128 c.args.a = c.ranges.a in
    let g : FitsSigned w128 c.args.b = c.ranges.b in
    let e : c.truth-in-Lt.result ≡ truth (int_lt c.args.a c.args.b) = simp to_z-of_z at c.truth-in-Lt.ensures in
    rw c.in-Lt.is (told_truth (int_lt c.args.a c.args.b) c.truth-in-Lt.result e)

pub returns-in-Le : goal.returns-in-Le
returns-in-Le c =
    let f : FitsSigned w128 c.args.a = c.ranges.a in
    let g : FitsSigned w128 c.args.b = c.ranges.b in
    let e : c.truth-in-Le.result ≡ truth (int_le c.args.a c.args.b) = simp to_z-of_z at c.truth-in-Le.ensures in
    rw c.in-Le.is (told_truth (int_le c.args.a c.args.b) c.truth-in-Le.result e)

pub returns-in-Gt : goal.returns-in-Gt
returns-in-Gt c =
    let f : FitsSigned w128 c.args.a = c.ranges.a in
    let g : FitsSigned w128 c.args.b = c.ranges.b in
    let e : c.truth-in-Gt.result ≡ truth (int_lt c.args.b c.args.a) = simp to_z-of_z at c.truth-in-Gt.ensures in
    rw c.in-Gt.is (told_truth (int_lt c.args.b c.args.a) c.truth-in-Gt.result e)

pub returns-in-Ge : goal.returns-in-Ge
returns-in-Ge c =
    let f : FitsSigned w128 c.args.a = c.ranges.a in
    let g : FitsSigned w128 c.args.b = c.ranges.b in
    let e : c.truth-in-Ge.result ≡ truth (int_le c.args.b c.args.a) = simp to_z-of_z at c.truth-in-Ge.ensures in
    rw c.in-Ge.is (told_truth (int_le c.args.b c.args.a) c.truth-in-Ge.result e)

pub returns-in-Div : goal.returns-in-Div
returns-in-Div c =
    let f : FitsSigned w128 c.args.a = c.ranges.a in
    let g : FitsSigned w128 c.args.b = c.ranges.b in
    let h : FitsSigned w128 c.quotient.result = search rules in
    let e : c.quotient.result ≡ div_of c.args.a c.args.b = simp to_z-of_z at c.quotient.ensures.value in
    let k : Fits (div_of c.args.a c.args.b) = simp to_z-of_z at c.quotient.ensures.fits in
    rw c.in-Div.is (told_fitting c.quotient.result (div_of c.args.a c.args.b) h e k)

pub returns-in-Mod : goal.returns-in-Mod
returns-in-Mod c =
    let f : FitsSigned w128 c.args.a = c.ranges.a in
    let g : FitsSigned w128 c.args.b = c.ranges.b in
    let h : FitsSigned w128 c.remainder.result = search rules in
    let e : c.remainder.result ≡ mod_of c.args.a c.args.b = simp to_z-of_z at c.remainder.ensures.value in
    let k : Fits (mod_of c.args.a c.args.b) = simp to_z-of_z at c.remainder.ensures.fits in
    rw c.in-Mod.is (told_fitting c.remainder.result (mod_of c.args.a c.args.b) h e k)

pub returns-then-a-eq0 : goal.returns-then-a-eq0
returns-then-a-eq0 c =
    let f : FitsSigned w128 c.args.a = c.ranges.a in
    let zero : c.args.a ≡ pos 0 = sym (to_z-of_z w128 c.args.a f) ∙ ap (to_z w128) c.if-a-eq0.true in
    rw (c.in-Implies.is, zero) (refl, omega arith, omega arith)

pub returns-then-a-eq0-2 : goal.returns-then-a-eq0-2
returns-then-a-eq0-2 c =
    let f : FitsSigned w128 c.args.a = c.ranges.a in
    let zero : c.args.a ≡ pos 0 = sym (to_z-of_z w128 c.args.a f) ∙ ap (to_z w128) c.if-a-eq0-2.true in
    rw (c.in-And.is, zero) (refl, omega arith, omega arith)

pub returns-in-Add : goal.returns-in-Add
returns-in-Add c =
    let f : FitsSigned w128 c.args.a = c.ranges.a in
    let g : FitsSigned w128 c.args.b = c.ranges.b in
    let s : SomeIff c.checked_add.result (FitsSigned w128 (c.args.a +ℤ c.args.b)) (c.args.a +ℤ c.args.b) = simp to_z-of_z at c.checked_add.ensures in
    rw c.in-Add.is (told_checked (c.args.a +ℤ c.args.b) c.checked_add.result c.fitting_any.result s c.fitting_any.ensures.ok c.fitting_any.ensures.err)

pub returns-in-Sub : goal.returns-in-Sub
returns-in-Sub c =
    let f : FitsSigned w128 c.args.a = c.ranges.a in
    let g : FitsSigned w128 c.args.b = c.ranges.b in
    let s : SomeIff c.checked_sub.result (FitsSigned w128 (c.args.a -ℤ c.args.b)) (c.args.a -ℤ c.args.b) = simp to_z-of_z at c.checked_sub.ensures in
    rw c.in-Sub.is (told_checked (c.args.a -ℤ c.args.b) c.checked_sub.result c.fitting_any-in-Sub.result s c.fitting_any-in-Sub.ensures.ok c.fitting_any-in-Sub.ensures.err)

pub returns-in-Mul : goal.returns-in-Mul
returns-in-Mul c =
    let f : FitsSigned w128 c.args.a = c.ranges.a in
    let g : FitsSigned w128 c.args.b = c.ranges.b in
    let s : SomeIff c.checked_mul.result (FitsSigned w128 (c.args.a *ℤ c.args.b)) (c.args.a *ℤ c.args.b) = simp to_z-of_z at c.checked_mul.ensures in
    rw c.in-Mul.is (told_checked (c.args.a *ℤ c.args.b) c.checked_mul.result c.fitting_any-in-Mul.result s c.fitting_any-in-Mul.ensures.ok c.fitting_any-in-Mul.ensures.err)
