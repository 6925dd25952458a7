use Rattle.std.proofs.Common.{◌≡◌, ℕ, ℤ, List, Result, Ok, Err, sym, subst}
use Rattle.std.specs.Prelude.{MatchResult}
use Rattle.typed_tree.specs.TypingRules.TypedParts.{typed_program}
use Rattle.trace_replay.specs.declared.causes.ReplayCause.{ReplayCause}
use Rattle.trace_replay.specs.declared.causes.ReplayFault.{ReplayFault}
use Rattle.trace_replay.specs.declared.causes.ReplayFault.TheVariants.{At, Memory}
use Rattle.trace_replay.specs.FailureText.{numbers}
use Rattle.trace_replay.specs.Replays.{Replays}
use Rattle.race_verdicts.proofs.failures.failure_of.Goals as goal

-- what is found or wants memory does not stop
no_stop : {T : Type 0} (P : T → Type 0) (r : Result T ReplayFault) (f : ReplayFault) (step : ℕ) (cause : ReplayCause) → MatchResult r P (λ e. e ≡ Memory) → r ≡ Err f → f ≡ At step cause → ⊥
no_stop P (Ok t) f step cause m e k = cc
no_stop P (Err g) f step cause m e k = let h : g ≡ Memory = m in cc

pub unreachable-requires : goal.unreachable-requires
unreachable-requires c =
    let t = typed_program c.args.program.now in
    let i = c.requires.replays.0 in
    let r : Replays t c.args.steps (numbers c.in_ok-choices.choices.items) i =
    subst (λ (vs : List ℤ). Replays t c.args.steps vs i) (sym c.in_ok-choices.ensures) c.requires.replays.1 in
    no_stop _ c.replay.result _ _ _ (c.replay.ensures.replays i r) c.in-Err-At.is c.in-Err-At.field-0-is
