use Rattle.std.proofs.Common.{◌≡◌, ◌++◌, ◌-◌, ℕ, [], map, ap, ◌∙◌, arith}
use Rattle.std.specs.Prelude.{replicate}
use Rattle.fm_elim.specs.declared.types.Aside.TheVariants.{Bounded}
use Rattle.fm_elim.specs.Answers.{aside_of}
use Rattle.fm_elim.specs.Columns.{bounded}
use Rattle.fm_elim.proofs.FreeColumns.{set_more}
use Rattle.fm_elim.proofs.descent.set_free.Goals as goal

pub loop-preserved : goal.loop-preserved
loop-preserved c =
    set_more c.args.asides.now.items c.loop.asides.items c.push.new.self.items c.args.used c.loop.counter (Bounded c.new.result c.new-in-loop.result)
    c.loop.auto.counter c.loop.invariant c.in_ok-push.ensures.items (λ i. bounded (c.new.ensures.items i) (c.new-in-loop.ensures.items i))

pub returns : goal.returns
returns c =
    let e : c.loop.counter ≡ c.args.left = omega (arith, c.loop.auto.counter-end c.requires) in
    c.loop.invariant ∙ ap (λ (m : ℕ). map aside_of c.args.asides.now.items ++ replicate (m - c.args.used) (bounded [] [])) e
