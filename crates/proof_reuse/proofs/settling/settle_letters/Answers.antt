use Rattle.std.proofs.Common.{◌≡◌, ℕ, List, [], length, sym, subst, arith}
use Rattle.std.specs.List.{AllByRecursion}
use Rattle.letter_acts.specs.Invariant.{alphabet_of}
use Rattle.triple_rows.specs.declared.triples.Triple.{Triple}
use Rattle.triple_rows.specs.Triples.{Agrees}
use Rattle.proof_reuse.specs.Ties.Settling.{IsSettling}
use Rattle.proof_reuse.proofs.SettlingLaws.{none_settles}
use Rattle.proof_reuse.proofs.settling.settle_letters.Goals as goal

pub loop-letter-init : goal.loop-letter-init
loop-letter-init g c = record {
  settles = λ old t. none_settles c.args.icfg.now old c.args.work.now.waiting.items c.args.work.now.proofs.items c.requires.waiting c.requires.proofs;
  agree = subst (λ (ts : List Triple). AllByRecursion (Agrees (alphabet_of c.args.icfg.now)) ts) (sym c.requires.waiting) tt;
}

pub loop-letter-preserved : goal.loop-letter-preserved
loop-letter-preserved g c = record {
  settles = λ old t. c.in_ok-settle_letter.ensures.settles old t (c.loop-letter.invariant.settles old t);
  agree = c.in_ok-settle_letter.ensures.agree;
}

pub returns : goal.returns
returns g c =
    let end : c.loop-letter.letter ≡ length c.args.icfg.now.acts = omega (arith, c.requires.count) in
    λ old t. subst (λ (n : ℕ). IsSettling c.args.icfg.now old n [] c.settle.new.work.proofs.items) end
    (subst (λ (ts : List Triple). IsSettling c.args.icfg.now old c.loop-letter.letter ts c.settle.new.work.proofs.items) c.in_ok-settle.ensures.none
    (c.in_ok-settle.ensures.settles old c.loop-letter.letter (c.loop-letter.invariant.settles old t)))
