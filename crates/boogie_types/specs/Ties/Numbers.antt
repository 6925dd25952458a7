-- Names and their numbers, as the code keeps them.
use Rattle.std.specs.Prelude.{◌≡◌, ℕ, List, map, Contains, Option, None, Some, nat_lt, if◌then◌else◌}
use Rattle.std.specs.Borrow.{Bor}
use Rattle.std.specs.BTreeMap.{BTreeMap, get_by}
use Rattle.std.specs.Cmp.Lexicographic.{slice_cmp}
use Rattle.std.specs.Ordering.{nat_cmp}
use Rattle.std.specs.List.{position_from}
use Rattle.std.specs.Str.{bytes_eq}
use Rattle.boogie_tree.specs.declared.tree.Name.{Name}
use Rattle.boogie_tree.specs.declared.tree.VarInfo.{VarInfo}
use Rattle.typed_tree.specs.declared.fault.TypeFault.{TypeFault}
use Rattle.typed_tree.specs.declared.fault.TypeFault.TheVariants as fault
use Rattle.boogie_types.specs.BrokenNames.{IsSecond}

-- the names behind a list of references
abbrev pub named_by : List (Bor Name) → List Name
named_by names = map (λ x. x.now) names

abbrev pub text_of : Name → List ℕ
text_of x = x.text

-- their texts
abbrev pub texts : List Name → List (List ℕ)
texts xs = map text_of xs

abbrev pub info_names : List VarInfo → List (List ℕ)
info_names vs = map (λ v. v.name) vs

-- the number of a name: its place in the list
abbrev pub number_of_name : List (List ℕ) → List ℕ → Option ℕ
number_of_name names name = position_from (bytes_eq name) 0 names

-- the number, where it is below that
abbrev pub if_below : ℕ → Option ℕ → Option ℕ
if_below b None = None
if_below b (Some n) = if nat_lt n b then Some n else None

-- The map has the number of each name, and nothing else.
pub record IsNumbered (places : BTreeMap (Bor (List ℕ)) ℕ) (names : List (List ℕ)) : Type 0 where
  pub numbers : (q : List ℕ) → get_by (λ k. slice_cmp nat_cmp q k.now) places ≡ number_of_name names q

-- the fault of names of which one stands twice
abbrev pub IsTwiceFault : List Name → TypeFault → Type 0
IsTwiceFault xs fault.Memory = Unit {0}
IsTwiceFault xs (fault.Twice at) = (x : Name) × IsSecond xs x × (at ≡ x.span)
IsTwiceFault xs f = ⊥

-- the fault of labels of which one has no number
abbrev pub IsLabelsFault : List (List ℕ) → List Name → TypeFault → Type 0
IsLabelsFault labels xs fault.Memory = Unit {0}
IsLabelsFault labels xs (fault.BadGoto at) = (x : Name) × Contains xs x × (number_of_name labels x.text ≡ None) × (at ≡ x.span)
IsLabelsFault labels xs f = ⊥

-- want of memory
abbrev pub IsMemoryFault : TypeFault → Type 0
IsMemoryFault fault.Memory = Unit {0}
IsMemoryFault f = ⊥
