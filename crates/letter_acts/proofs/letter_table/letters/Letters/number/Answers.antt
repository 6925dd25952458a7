use Rattle.std.proofs.Common.{◌∙◌, List, [], ◌∷◌, ◌++◌, sym, ap}
use Rattle.std.specs.List.{list_any}
use Rattle.std.proofs.lemmas.List.{map-append}
use Rattle.letter_acts.specs.declared.acts.Act.{Act}
use Rattle.letter_acts.specs.LetterTable.Letters.{MarkedAct, marked_act, marked_acts, act_number}
use Rattle.letter_acts.specs.LetterTable.Ties.Keys.{marked_key}
use Rattle.letter_acts.proofs.LetterTable.KeyTests.{marked_test, number_is, added_new, added_old}
use Rattle.letter_acts.proofs.LetterTable.NewKeys.{key_added, key_there}
use Rattle.letter_acts.proofs.letter_table.letters.Letters.number.Goals as goal
use Rattle.letter_acts.proofs.letter_table.letters.Letters.number.Goals.{then-is_new, else-is_new}

pub returns-clause-number : goal.returns-clause-number
returns-clause-number c =
    let keys = c.self.inside.keys.keys in
    let key = c.in_ok-key.key in
    rw (← c.self.view_is)
    (c.in_ok-place.ensures.index ∙ number_is keys key
    ∙ ap (λ (acts : List MarkedAct). act_number acts (marked_key key)) c.self.invariant
    ∙ ap (act_number (marked_acts c.self.inside.acts.items)) c.in_ok-key.ensures)

pub returns-clause-added : goal.returns-clause-added
returns-clause-added c =
    let keys = c.self.inside.keys.keys in
    let key = c.in_ok-key.key in
    let acts = marked_acts c.self.inside.acts.items in
    rw (← c.self.view_is)
    (elim c.if-is_new.branch [
      | then-is_new w ↦
          let pushed = w.push_reserved.ensures.items ∙ ap (λ (xs : List Act). xs ++ c.args.act ∷ []) c.reserve.ensures.items in
          w.self-is ∙ ap marked_acts pushed ∙ map-append marked_act c.self.inside.acts.items (c.args.act ∷ [])
          ∙ added_new keys key acts (marked_act c.args.act) c.in_ok-place.is_new c.self.invariant c.in_ok-key.ensures c.in_ok-place.ensures.added w.if-is_new.true
      | else-is_new w ↦
          w.self-is ∙ ap marked_acts c.reserve.ensures.items
          ∙ added_old keys key acts (marked_act c.args.act) c.in_ok-place.is_new c.self.invariant c.in_ok-key.ensures c.in_ok-place.ensures.added w.if-is_new.false
    ])

pub invariant_of-self : goal.invariant_of-self
invariant_of-self c = c.self.invariant ∙ sym (ap marked_acts c.reserve.ensures.items)

pub invariant_of-self-then-is_new : goal.invariant_of-self-then-is_new
invariant_of-self-then-is_new c =
    let keys = c.self.inside.keys.keys in
    let key = c.in_ok-key.key in
    key_added keys c.insert_full.new.self.keys key c.self.inside.acts.items c.reserve.new.self.items c.push_reserved.new.self.items c.args.act c.in_ok-place.is_new (list_any (marked_test key) keys)
    c.self.invariant c.in_ok-key.ensures c.reserve.ensures.items c.push_reserved.ensures.items c.in_ok-place.ensures.keys c.in_ok-place.ensures.added c.if-is_new.true

pub invariant_of-self-else-is_new : goal.invariant_of-self-else-is_new
invariant_of-self-else-is_new c =
    let keys = c.self.inside.keys.keys in
    let key = c.in_ok-key.key in
    key_there keys c.insert_full.new.self.keys key c.self.inside.acts.items c.reserve.new.self.items c.in_ok-place.is_new (list_any (marked_test key) keys)
    c.self.invariant c.reserve.ensures.items c.in_ok-place.ensures.keys c.in_ok-place.ensures.added c.if-is_new.false
