use Rattle.std.proofs.Common.{◌≡◌, ◌+◌, ℕ, length, refl, sym, subst, rules}
use Rattle.letter_acts.specs.Acts.{frame_of}
use Rattle.letter_acts.specs.Invariant.{alphabet_of}
use Rattle.triple_rows.specs.Predicates.{formula_of}
use Rattle.triple_rows.specs.Systems.{PlainSystem, PlainFits, both_systems, said}
use Rattle.triple_rows.specs.Ties.Drafts.{Adds}
use Rattle.triple_rows.proofs.DraftLaws.{draft_is, adds_both, both_fit}
use Rattle.triple_rows.proofs.HalfLaws.{said_from_zero, said_behind}
use Rattle.triple_rows.proofs.halves.said_twice.Goals as goal

pub returns-clause-value : goal.returns-clause-value
returns-clause-value c =
    let e = formula_of c.args.exit.now.pred in
    let b = formula_of c.args.before.now.pred in
    let n = length (frame_of (alphabet_of c.args.icfg.now) c.args.exit.now.proc) in
    let d0 = c.new-draft.result in
    let d1 = c.said_of.new.draft in
    let d2 = c.said_of-2.new.draft in
    let first : Adds (said (λ k. k) e) d0 d1 = subst (λ (p : PlainSystem). Adds p d0 d1) (said_from_zero e) c.in_ok-said_of.ensures.adds in
    let second : Adds (said (λ k. n + k) b) d1 d2 = subst (λ (p : PlainSystem). Adds p d1 d2)
    (said_behind (length c.columns-first.result.now) (frame_of (alphabet_of c.args.icfg.now) c.args.exit.now.proc) c.columns-first.result.now b refl c.columns-first.ensures.value) c.in_ok-said_of-2.ensures.adds in
    draft_is (both_systems (said (λ k. k) e) (said (λ k. n + k) b)) d0 d2 c.finish.result c.new-draft.ensures.rows c.new-draft.ensures.groups
    (adds_both (said (λ k. k) e) (said (λ k. n + k) b) d0 d1 d2 first second) c.finish.ensures.rows c.finish.ensures.groups

pub returns-clause-fits : goal.returns-clause-fits
returns-clause-fits c =
    let e = formula_of c.args.exit.now.pred in
    let b = formula_of c.args.before.now.pred in
    let n = length (frame_of (alphabet_of c.args.icfg.now) c.args.exit.now.proc) in
    (both_fit (said (λ k. k) e) (said (λ k. n + k) b)).1 (
      subst PlainFits (said_from_zero e) c.in_ok-said_of.ensures.fits,
      subst PlainFits (said_behind (length c.columns-first.result.now) (frame_of (alphabet_of c.args.icfg.now) c.args.exit.now.proc) c.columns-first.result.now b refl c.columns-first.ensures.value)
          c.in_ok-said_of-2.ensures.fits,
    )

pub returns-in_err-said_of-clause-past : goal.returns-in_err-said_of-clause-past
returns-in_err-said_of-clause-past c = λ r h.
    let e = formula_of c.args.exit.now.pred in
    let b = formula_of c.args.before.now.pred in
    let n = length (frame_of (alphabet_of c.args.icfg.now) c.args.exit.now.proc) in
    c.in_err-said_of.ensures.past (search rules) (subst PlainFits (sym (said_from_zero e)) ((both_fit (said (λ k. k) e) (said (λ k. n + k) b)).0 h).0)

pub returns-in_err-said_of-2-clause-past : goal.returns-in_err-said_of-2-clause-past
returns-in_err-said_of-2-clause-past c = λ r h.
    let e = formula_of c.args.exit.now.pred in
    let b = formula_of c.args.before.now.pred in
    let n = length (frame_of (alphabet_of c.args.icfg.now) c.args.exit.now.proc) in
    c.in_err-said_of-2.ensures.past (search rules) (subst PlainFits
    (sym (said_behind (length c.columns-first.result.now) (frame_of (alphabet_of c.args.icfg.now) c.args.exit.now.proc) c.columns-first.result.now b refl c.columns-first.ensures.value))
    ((both_fit (said (λ k. k) e) (said (λ k. n + k) b)).0 h).1)
