use Rattle.std.proofs.Common.{◌≡◌, ◌++◌, ◌↔◌, ℕ, List}
use Rattle.nwa_base.specs.Members.{Member}
use Rattle.nwa_base.specs.declared.letters.Letter.{Letter}
use Rattle.nwa_reduce.specs.Ties.Naming.{named}
use Rattle.nwa_reduce.specs.Images.{Among, IsNamedBack}
use Rattle.nwa_reduce.proofs.MadeLemmas.{on_ok, image_made}
use Rattle.nwa_reduce.proofs.imaging.fill.Goals as goal

pub returns : goal.returns
returns c =
    let f = c.in_ok-name_finals.ensures in
    let i = c.in_ok-name_insides.ensures in
    let k = c.in_ok-name_calls.ensures in
    on_ok c.name_backs.result
    (λ (b : (s : List (ℕ × ℕ × Letter × ℕ)) × (c.name_backs.new.image ≡ record c.name_calls.new.image { backs = c.name_calls.new.image.backs ++ s }) ×
    ((x : ℕ × ℕ × Letter × ℕ) → Member s x ↔ Among (IsNamedBack (named c.args.names.now.of.items)) c.args.nwa.now.backs x)).
    image_made c.args.nwa.now c.args.image.now c.name_finals.new.image c.name_insides.new.image c.name_calls.new.image c.name_backs.new.image
    (named c.args.names.now.of.items) c.args.image.now.states c.args.image.now.start f.0 i.0 k.0 b.0 c.requires.start c.requires.bare f.1 i.1 k.1 b.1
    f.2 i.2 k.2 b.2) c.name_backs.ensures
