use Rattle.std.proofs.Common.{◌≡◌, Bool, false, FitsSigned, List, get_or, length, map, nat_eq, rules, sym, subst}
use Rattle.std.specs.Global.{Vec}
use Rattle.std.specs.Int.{w128}
use Rattle.std.specs.List.{list_all}
use Rattle.std.specs.Option.{option_map}
use Rattle.std.proofs.lemmas.Int.{to_z-of_z}
use Rattle.explained_proof.specs.RowExpressions.Cases as by
use Rattle.explained_proof.specs.RowExpressions.Rows as spec
use Rattle.explained_proof.proofs.RowExpressions.CaseLaws.{and_false}
use Rattle.explained_proof.proofs.RowExpressions.LoopLaws.{all_here}
use Rattle.explained_proof.proofs.row_expressions.rows.is_constant.Goals as goal

pub returns-then-not-is_so : goal.returns-then-not-is_so
returns-then-not-is_so c =
    let f : FitsSigned w128 c.args.bound = search rules in
    let P : List Bool → Bool = λ k. spec.is_equal_to c.args.value (option_map (spec.stands c.args.equal) (by.rest c.args.bound c.args.split.now.truths.items k)) in
    let e : P c.case-item.result.items ≡ false = sym (simp to_z-of_z at c.if-not-is_so.ensures) in
    let here : P (get_or c.deref-case-items.result.now c.loop-case.case-index c.case-item.result).items ≡ false = subst (λ (v : Vec Bool). P v.items ≡ false) c.case-item.is e in
    let first = all_here P (λ (v : Vec Bool). v.items) c.deref-case-items.result.now c.loop-case.case-index c.case-item.result c.loop-case-test.true here in
    let second = subst (λ (vs : List (Vec Bool)). list_all P (map (λ v. v.items) vs) ≡ false) c.deref-case-items.ensures.value first in
    let all : list_all P (by.cases (length c.args.split.now.truths.items)) ≡ false = subst (λ cs. list_all P cs ≡ false) c.requires second in
    sym (and_false (nat_eq (length c.args.split.now.numbers.items) 0) (list_all P (by.cases (length c.args.split.now.truths.items))) all)
