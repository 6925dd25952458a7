use Rattle.std.proofs.Common.{[], ◌∷◌, sym, ap, refl, subst, inl}
use Rattle.nwa_base.specs.declared.letters.Kind.TheVariants.{Call}
use Rattle.nwa_determinise.specs.Kept.{Kept}
use Rattle.nwa_determinise.specs.Reads.{LeadsTo}
use Rattle.nwa_determinise.proofs.NotedLemmas.{noted_call, led_call}
use Rattle.nwa_determinise.proofs.kept.Det.on_call.Goals as goal

pub returns-in-Some-clause-number : goal.returns-in-Some-clause-number
returns-in-Some-clause-number c =
    rw (← c.self.view_is) (c.self.invariant.calls c.args.s c.in-Some.field-0.now c.args.c (sym c.in-Some.ensures.value)).1

pub returns-in-Some-clause-once : goal.returns-in-Some-clause-once
returns-in-Some-clause-once c =
    inl (refl, rw (← c.self.view_is) (c.self.invariant.calls c.args.s c.in-Some.field-0.now c.args.c (sym c.in-Some.ensures.value)).1)

pub returns-in-Some-clause-set : goal.returns-in-Some-clause-set
returns-in-Some-clause-set c =
    rw (← c.self.view_is) (c.self.invariant.calls c.args.s c.in-Some.field-0.now c.args.c (sym c.in-Some.ensures.value)).2

pub invariant_of-self : goal.invariant_of-self
invariant_of-self c =
    noted_call _ _ _ _ _ c.args.s c.in_ok-next.next c.args.c c.self-2.invariant c.note.ensures
    (subst (λ (k : Kept). LeadsTo k Call c.args.c [] c.args.s (c.args.s ∷ []) c.in_ok-next.next) (sym c.self-2.view_is)
    (led_call c.args.self.now c.intern.new.self c.self.inside.nwa.now c.args.s c.in_ok-next.next c.args.c c.pairs.result.now c.in_ok-set.set.items
    c.in_ok-next.ensures.grows c.requires c.in_ok-next.ensures.number (ap (λ (k : Kept). k.nwa) c.self.view_is) c.pairs.ensures c.in_ok-next.ensures.set
    c.in_ok-set.ensures))
