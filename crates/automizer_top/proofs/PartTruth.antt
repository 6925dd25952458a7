-- What verdicts on parts say is so: where all are safe the program is, and where one is unsafe a run of that part fails.
use Rattle.std.proofs.Common.{◌≡◌, ℕ, suc, ◌<◌, List, [], ◌∷◌, ◌++◌, length, None, ap, refl, sym, ◌∙◌, subst, arith}
use Rattle.std.specs.Prelude.{IsTrue, Contains}
use Rattle.std.specs.List.{AllByRecursion}
use Rattle.typed_tree.specs.TypedTree.{TypedProgram}
use Rattle.typed_tree.specs.TypingRules.ValidProgram.{is_valid}
use Rattle.boogie_run.specs.RunRules.Runs.{IsSafe}
use Rattle.lowered_graph.specs.Laws.{LoweringIsFaithful}
use Rattle.modular_cut.specs.Parts.{PlainPart, parts_of}
use Rattle.modular_cut.specs.View.{IsValidPart}
use Rattle.modular_cut.proofs.SafeParts.{safe_by_parts}
use Rattle.race_rounds.specs.declared.limits.Limits.{Limits}
use Rattle.text_reports.specs.ReportTexts.{Answer}
use Rattle.automizer_top.specs.Parts.{AreSafe, ReportsParts, all_safe, one_is_not}
use Rattle.automizer_top.specs.PartClaims.{PrintsPartFailure}
use Rattle.automizer_top.proofs.AgreeLaws.{CertifiedIsInfeasible, WhatReplaysFails, safe_is_true, unsafe_is_true}

each_is_safe : CertifiedIsInfeasible → LoweringIsFaithful → (l : Limits) (ps : List PlainPart) (bs : List Answer) → AllByRecursion IsValidPart ps → AreSafe l ps bs →
    AllByRecursion (λ p. IsSafe p.program) ps
each_is_safe law faithful l [] bs valid h = tt
each_is_safe law faithful l (p ∷ ps) [] valid h = absurd h
each_is_safe law faithful l (p ∷ ps) (b ∷ bs) valid h = (safe_is_true law faithful None l p.program b valid.0 h.0 h.1, each_is_safe law faithful l ps bs valid.1 h.2)

not_both : (b : Answer) (n : ℕ) → n ≡ b.status → n ≡ 0 → (b.status ≡ 0 → ⊥) → ⊥
not_both b n e z other = other (sym e ∙ z)

pub parts_are_safe : CertifiedIsInfeasible → LoweringIsFaithful → (l : Limits) (t : TypedProgram) (a : Answer) → IsTrue (is_valid t) → AllByRecursion IsValidPart (parts_of t) →
    ReportsParts l (parts_of t) a → a.status ≡ 0 → IsSafe t
parts_are_safe law faithful l t a valid valids (all_safe bs h is) z = safe_by_parts t valid (parts_of t) refl valids (each_is_safe law faithful l (parts_of t) bs valids h)
parts_are_safe law faithful l t a valid valids (one_is_not before after p bs b same h v other is) z = absurd (not_both b a.status (ap (λ (c : Answer). c.status) is) z other)

-- a member of a list that is split there
pub split_contains : (before after : List PlainPart) (p : PlainPart) → Contains (before ++ p ∷ after) p
split_contains [] after p = (0, omega arith, refl)
split_contains (q ∷ before) after p =
    let c = split_contains before after p in
    let k : ℕ = c.0 in
    let l : k < length (before ++ p ∷ after) = c.1 in
    (suc k, omega (arith, l), c.2)

zero_or_one : (a : Answer) → a.status ≡ 0 → a.status ≡ 1 → ⊥
zero_or_one a e f = omega (arith, e, f)

pub part_fails : WhatReplaysFails → (l : Limits) (t : TypedProgram) (a : Answer) → ReportsParts l (parts_of t) a → a.status ≡ 1 → PrintsPartFailure t a
part_fails law l t a (all_safe bs h is) z = absurd (zero_or_one a (ap (λ (b : Answer). b.status) is) z)
part_fails law l t a (one_is_not before after p bs b same h v other is) z =
    let status : b.status ≡ 1 = sym (ap (λ (c : Answer). c.status) is) ∙ z in (
      p,
      subst (λ (ps : List PlainPart). Contains ps p) (sym same) (split_contains before after p),
      b,
      ap (λ (c : Answer). c.bytes) is,
      unsafe_is_true law None l p.program b v status,
    )
