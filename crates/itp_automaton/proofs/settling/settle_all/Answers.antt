use Rattle.std.proofs.Common.{◌≡◌, ◌∙◌, ◌<◌, ℕ, List, length, sym, ap, subst, arith}
use Rattle.std.proofs.lemmas.List.{length-map}
use Rattle.std.specs.List.{AllByRecursion, AllZip}
use Rattle.rayon.proofs.ListFacts.{IfOk-then}
use Rattle.letter_acts.specs.declared.acts.Act.{Act}
use Rattle.letter_acts.specs.Acts.{PlainAct, plain_act, plain_acts}
use Rattle.letter_acts.specs.Invariant.{alphabet_of}
use Rattle.triple_rows.specs.Proofs.{PlainProof}
use Rattle.itp_automaton.specs.Settling.{AreAllBelow, IsFoundBy}
use Rattle.itp_automaton.proofs.SettlingLaws.{adds_found, found_in, found_grounded, all_settled}
use Rattle.itp_automaton.proofs.settling.settle_all.Goals as goal

act_count : (acts : List Act) (plain : List PlainAct) → plain_acts acts ≡ plain → length acts ≡ length plain
act_count acts plain e = sym (length-map acts plain_act) ∙ ap length e

pub settle_letters-requires-after_bounds : goal.settle_letters-requires-after_bounds
settle_letters-requires-after_bounds g c κs within =
    let acts : length c.acts.result.now ≡ length c.args.icfg.now.acts = act_count c.acts.result.now c.args.icfg.now.acts c.acts.ensures.value in
    let end : c.in-Ok.count ≡ length c.args.icfg.now.acts = omega (arith, c.in-Ok.ensures) in
    subst (λ (n : ℕ). AllByRecursion (λ l. l < n) c.in_ok-letters.letters.items) end c.in_ok-letters.ensures.each

pub returns-clause-adds : goal.returns-clause-adds
returns-clause-adds g c =
    let al = alphabet_of c.args.icfg.now in
    let states = c.args.states.now in
    let proofs = c.args.proofs.items in
    let found = subst (λ (ps : List PlainProof). AllZip (λ l more. IsFoundBy al states ps l more.items) c.in_ok-letters.letters.items c.in_ok-found.found.items) c.deref-2.ensures.value
    c.in_ok-found.ensures in
    IfOk-then c.with_found.result _ _ c.with_found.ensures (λ all e.
    adds_found al states proofs (found_in c.in_ok-found.found.items) all.items (found_grounded al states proofs c.in_ok-letters.letters.items c.in_ok-found.found.items found) e)

pub returns-clause-settled : goal.returns-clause-settled
returns-clause-settled g c =
    let al = alphabet_of c.args.icfg.now in
    let states = c.args.states.now in
    let proofs = c.args.proofs.items in
    let acts : length c.acts.result.now ≡ length c.args.icfg.now.acts = act_count c.acts.result.now c.args.icfg.now.acts c.acts.ensures.value in
    let end : c.in-Ok.count ≡ length c.args.icfg.now.acts = omega (arith, c.in-Ok.ensures) in
    let below = subst (λ (n : ℕ). AreAllBelow n c.in_ok-letters.letters.items) end c.in_ok-letters.ensures in
    let found = subst (λ (ps : List PlainProof). AllZip (λ l more. IsFoundBy al states ps l more.items) c.in_ok-letters.letters.items c.in_ok-found.found.items) c.deref-2.ensures.value
    c.in_ok-found.ensures in
    IfOk-then c.with_found.result _ _ c.with_found.ensures (λ all e.
    all_settled al states proofs all.items (length c.args.icfg.now.acts) c.in_ok-letters.letters.items c.in_ok-found.found.items below found e)
