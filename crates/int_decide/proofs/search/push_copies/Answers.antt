use Rattle.std.proofs.Common.{◌≡◌, ◌∷◌, [], ◌++◌, List, ℕ, replicate, append_assoc, sym, ap, ◌∙◌, subst, arith}
use Rattle.std.proofs.lemmas.List.{append-nil, replicate_more}
use Rattle.int_decide.proofs.search.push_copies.Goals as goal

pub loop-time-init : goal.loop-time-init
loop-time-init c = sym (append-nil c.args.numbers.now.items)

pub loop-time-preserved : goal.loop-time-preserved
loop-time-preserved c =
    let begin = c.args.numbers.now.items in
    c.in_ok-push.ensures.items ∙ ap (λ (xs : List ℕ). xs ++ c.args.number ∷ []) c.loop-time.invariant ∙
    append_assoc begin (replicate c.loop-time._time c.args.number) (c.args.number ∷ []) ∙ ap (λ (xs : List ℕ). begin ++ xs) (replicate_more c.loop-time._time c.args.number)

pub returns : goal.returns
returns c =
    let e : c.loop-time._time ≡ c.args.times = omega arith in
    subst (λ (n : ℕ). c.loop-time.numbers.items ≡ c.args.numbers.now.items ++ replicate n c.args.number) e c.loop-time.invariant
