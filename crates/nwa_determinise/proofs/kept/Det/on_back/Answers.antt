use Rattle.std.proofs.Common.{[], ◌∷◌, sym, ap, refl, subst, inl}
use Rattle.nwa_base.specs.declared.letters.Kind.TheVariants.{Back}
use Rattle.nwa_determinise.specs.Kept.{Kept}
use Rattle.nwa_determinise.specs.Reads.{LeadsTo}
use Rattle.nwa_determinise.proofs.NotedLemmas.{noted_back, led_back}
use Rattle.nwa_determinise.proofs.kept.Det.on_back.Goals as goal

pub returns-in-Some-clause-number : goal.returns-in-Some-clause-number
returns-in-Some-clause-number c =
    rw (← c.self.view_is) (c.self.invariant.backs c.args.s c.args.before c.in-Some.field-0.now c.args.r (sym c.in-Some.ensures.value)).2

pub returns-in-Some-clause-once : goal.returns-in-Some-clause-once
returns-in-Some-clause-once c =
    inl (refl, rw (← c.self.view_is) (c.self.invariant.backs c.args.s c.args.before c.in-Some.field-0.now c.args.r (sym c.in-Some.ensures.value)).2)

pub returns-in-Some-clause-set : goal.returns-in-Some-clause-set
returns-in-Some-clause-set c =
    rw (← c.self.view_is) (c.self.invariant.backs c.args.s c.args.before c.in-Some.field-0.now c.args.r (sym c.in-Some.ensures.value)).3

pub invariant_of-self : goal.invariant_of-self
invariant_of-self c =
    noted_back _ _ _ _ _ c.args.s c.args.before c.in_ok-next.next c.args.r c.self-2.invariant c.note.ensures
    (subst (λ (k : Kept). LeadsTo k Back c.args.r (c.args.before ∷ []) c.args.s [] c.in_ok-next.next) (sym c.self-2.view_is)
    (led_back c.args.self.now c.intern.new.self c.self.inside.nwa.now c.args.s c.args.before c.in_ok-next.next c.args.r c.pairs.result.now
    c.pairs-2.result.now c.in_ok-set.set.items c.in_ok-next.ensures.grows c.requires.set c.requires.before c.in_ok-next.ensures.number
    (ap (λ (k : Kept). k.nwa) c.self.view_is) c.pairs.ensures c.pairs-2.ensures c.in_ok-next.ensures.set c.in_ok-set.ensures))
