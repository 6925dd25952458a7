use Rattle.std.proofs.Common.{refl}
use Rattle.nwa_emptiness.specs.Ties.Seen.{seen}
use Rattle.nwa_emptiness.proofs.FoundLemmas.{made_word, accepted_is_matched, letters_accepted, word_accepted}
use Rattle.nwa_emptiness.proofs.finding.spelled.Goals as goal

pub unwrap-requires : goal.unwrap-requires
unwrap-requires c =
    let m = (seen c.args.search.now).nwa in
    let a =
    letters_accepted (seen c.args.search.now) m c.args.point c.args.point.place c.in_ok-letters.letters.items refl
    c.requires.point refl c.in_ok-letters.ensures c.requires.ends in
    made_word c.word.result c.in_ok-letters.letters.items c.word.ensures.value (accepted_is_matched m c.in_ok-letters.letters.items a)

pub returns : goal.returns
returns c =
    let m = (seen c.args.search.now).nwa in
    word_accepted m c.word.result c.unwrap.result c.in_ok-letters.letters.items c.word.ensures.value c.unwrap.ensures
    (letters_accepted (seen c.args.search.now) m c.args.point c.args.point.place c.in_ok-letters.letters.items refl
    c.requires.point refl c.in_ok-letters.ensures c.requires.ends)
