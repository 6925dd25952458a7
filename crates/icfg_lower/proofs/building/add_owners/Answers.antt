use Rattle.std.proofs.Common.{◌≡◌, ◌∙◌, ◌+◌, ◌++◌, ℕ, List, replicate, sym, ap}
use Rattle.typed_tree.specs.TypingRules.TypedParts.{TypedParts, typed_program}
use Rattle.icfg_lower.specs.Ties.Owners.{owners_from, site_owners_from}
use Rattle.icfg_lower.proofs.PlaceOwners.{owners_are, on_ok}
use Rattle.icfg_lower.proofs.building.add_owners.Goals as goal

pub returns : goal.returns
returns c =
    let first : c.add_owner.new.owners.items ≡ replicate (1 + c.start_conditions.result) c.args.layout.now.entry =
    c.in_ok-add_owner.ensures
    ∙ ap (λ (l : List ℕ). l ++ replicate (1 + c.start_conditions.result) c.entry-entry.result) c.requires
    ∙ ap (λ (p : ℕ). replicate (1 + c.start_conditions.result) p) (c.entry-entry.ensures ∙ ap (λ (p : TypedParts). p.entry) c.program.ensures.value) in
    let places : c.add_all_places.new.owners.items ≡ replicate (1 + c.start_conditions.result) c.args.layout.now.entry ++ owners_from (typed_program c.args.layout.now) 0 =
    c.in_ok-add_all_places.ensures ∙ ap (λ (l : List ℕ). l ++ owners_from (typed_program c.args.layout.now) 0) first in
    on_ok c.add_all_sites.result
    (λ h. h ∙ ap (λ (l : List ℕ). l ++ site_owners_from (typed_program c.args.layout.now) 0) places
    ∙ sym (owners_are (typed_program c.args.layout.now) c.start_conditions.result c.program.ensures.valid c.start_conditions.ensures))
    c.add_all_sites.ensures
