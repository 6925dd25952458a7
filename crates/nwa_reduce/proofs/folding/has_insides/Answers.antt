use Rattle.std.proofs.Common.{ℕ, refl, arith}
use Rattle.nwa_base.specs.declared.letters.Letter.{Letter}
use Rattle.nwa_reduce.specs.Ties.Naming.{named}
use Rattle.nwa_reduce.specs.Ties.Folding.{LeadsToName}
use Rattle.nwa_reduce.proofs.EachLemmas.{each_none, each_on, each_all}
use Rattle.nwa_reduce.proofs.CopyLemmas.{leads_to_name}
use Rattle.nwa_reduce.proofs.folding.has_insides.Goals as goal

pub loop-letter-init : goal.loop-letter-init
loop-letter-init c = each_none c.args.edges.now (λ (e : ℕ × Letter × ℕ). LeadsToName c.args.nwa.now.insides (named c.args.names.now.of.items) c.args.state e.1 e.2)

pub loop-letter-preserved : goal.loop-letter-preserved
loop-letter-preserved c =
    each_on c.args.edges.now c.loop-letter.letter-index _ (λ (e : ℕ × Letter × ℕ). LeadsToName c.args.nwa.now.insides (named c.args.names.now.of.items) c.args.state e.1 e.2)
    c.loop-letter-test.true c.loop-letter.invariant
    (leads_to_name c.args.nwa.now.insides (named c.args.names.now.of.items) c.args.state _ _ c.inside_ends.result.now c.inside_ends.ensures
    (c.if-not-is_name_of_any.ensures refl))

pub returns : goal.returns
returns c = λ yes.
    each_all c.args.edges.now c.loop-letter.letter-index (λ (e : ℕ × Letter × ℕ). LeadsToName c.args.nwa.now.insides (named c.args.names.now.of.items) c.args.state e.1 e.2)
    (omega arith) c.loop-letter.invariant
