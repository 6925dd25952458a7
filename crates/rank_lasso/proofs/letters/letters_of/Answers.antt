use Rattle.std.proofs.Common.{◌^◌, ◌<◌, ◌∷◌}
use Rattle.std.specs.Fmt.{decimal}
use Rattle.rank_lasso.proofs.Contents.{letters_begun, letters_are_one}
use Rattle.rank_lasso.proofs.Items.{not_empty, one_more, not_items}
use Rattle.rank_lasso.proofs.letters.letters_of.Goals as goal

pub returns-in_default : goal.returns-in_default
returns-in_default c =
    not_items (λ n. n < 2 ^ 32) (λ n. 32 ∷ decimal n) letters_begun letters_are_one c.args.bytes.now c.loop-rest.letters.items c.loop-rest.rest.now c.loop-rest.invariant
    (not_empty c.loop-rest.rest.now c.is_empty.result c.is_empty.ensures c.loop-rest-test.true) c.in_default.ensures

pub loop-rest-preserved : goal.loop-rest-preserved
loop-rest-preserved c =
    rw c.in_ok-push.ensures.items (one_more (λ n. n < 2 ^ 32) (λ n. 32 ∷ decimal n) letters_begun letters_are_one c.args.bytes.now c.loop-rest.letters.items c.loop-rest.rest.now
    c.in-Some.letter c.in-Some.behind.now c.loop-rest.invariant c.in-Some.ensures.0 c.in-Some.ensures.1 c.in-Some.ensures.2)
