-- Letters, and whether two are equal.
use Rattle.std.specs.Prelude.{Bool, true, false, ◌&&◌, nat_eq}
use Rattle.nwa_base.specs.declared.letters.Kind.{Kind}
use Rattle.nwa_base.specs.declared.letters.Kind.TheVariants.{Inside, Call, Back}
use Rattle.nwa_base.specs.declared.letters.Letter.{Letter}

-- the kinds are equal
abbrev pub same_kind : Kind → Kind → Bool
same_kind Inside Inside = true
same_kind Inside Call = false
same_kind Inside Back = false
same_kind Call Inside = false
same_kind Call Call = true
same_kind Call Back = false
same_kind Back Inside = false
same_kind Back Call = false
same_kind Back Back = true

-- the letters are equal
abbrev pub same_letter : Letter → Letter → Bool
same_letter a b = nat_eq a.id b.id && (same_kind a.kind b.kind && nat_eq a.call b.call)
