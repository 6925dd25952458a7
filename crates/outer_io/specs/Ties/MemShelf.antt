-- A shelf in memory, as its contracts see it.
use Rattle.std.specs.Prelude.{ℕ, ◌<◌, ◌≤◌, List, [], length, drop, map, Option, None, Some, slice_index_or, string_bytes, String, Vec}
use Rattle.std.specs.declared.alloc.Global.{Global}
use Rattle.outer_io.specs.declared.memory.mem_shelf.Place.{Place}

-- what a shelf in memory has: the texts by their names, the rest of the text begun last, how many bytes a call moves at
-- most, the numbers of the calls that fail, and how many calls there were and failed
pub record MemShelfState : Type 0 where
  pub texts : List (List ℕ × List ℕ)
  pub left : List ℕ
  pub most : ℕ
  pub fails : List ℕ
  pub calls : ℕ
  pub faults : ℕ

-- the texts by the bytes of their names
abbrev pub shown_texts : List (String Global × Vec ℕ Global) → List (List ℕ × List ℕ)
shown_texts texts = map (λ t. (string_bytes t.0, t.1.items)) texts

-- the text at that index
abbrev pub text_at : List (List ℕ × List ℕ) → ℕ → List ℕ
text_at texts i = (slice_index_or texts i ([], [])).1

-- what is left from that place on
abbrev pub left_at : List (List ℕ × List ℕ) → Option Place → List ℕ
left_at texts None = []
left_at texts (Some place) = drop place.offset (text_at texts place.text)

-- the place is in one of the texts
abbrev pub IsPlaceIn : List (List ℕ × List ℕ) → Option Place → Type 0
IsPlaceIn texts None = Unit {0}
IsPlaceIn texts (Some place) = (place.text < length texts) × (place.offset ≤ length (text_at texts place.text))
