use Rattle.std.proofs.Common.{ℕ, refl, arith}
use Rattle.nwa_base.specs.declared.letters.Letter.{Letter}
use Rattle.nwa_reduce.specs.Ties.Naming.{named}
use Rattle.nwa_reduce.specs.Ties.Folding.{ReturnsToName}
use Rattle.nwa_reduce.proofs.EachLemmas.{each_none, each_on, each_all}
use Rattle.nwa_reduce.proofs.CopyLemmas.{returns_to_name}
use Rattle.nwa_reduce.proofs.folding.has_backs.Goals as goal

pub loop-letter-init : goal.loop-letter-init
loop-letter-init c = each_none c.args.edges.now (λ (e : ℕ × ℕ × Letter × ℕ). ReturnsToName c.args.nwa.now.backs (named c.args.names.now.of.items) c.args.exit c.args.before e.2 e.3)

pub loop-letter-preserved : goal.loop-letter-preserved
loop-letter-preserved c =
    each_on c.args.edges.now c.loop-letter.letter-index _ (λ (e : ℕ × ℕ × Letter × ℕ). ReturnsToName c.args.nwa.now.backs (named c.args.names.now.of.items) c.args.exit c.args.before e.2 e.3)
    c.loop-letter-test.true c.loop-letter.invariant
    (returns_to_name c.args.nwa.now.backs (named c.args.names.now.of.items) c.args.exit c.args.before _ _ c.back_ends.result.now c.back_ends.ensures
    (c.if-not-is_name_of_any.ensures refl))

pub returns : goal.returns
returns c = λ yes.
    each_all c.args.edges.now c.loop-letter.letter-index (λ (e : ℕ × ℕ × Letter × ℕ). ReturnsToName c.args.nwa.now.backs (named c.args.names.now.of.items) c.args.exit c.args.before e.2 e.3)
    (omega arith) c.loop-letter.invariant
