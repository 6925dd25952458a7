-- What each step tells the seat that makes it: the number that was found, and the seat after.
use Rattle.std.specs.Prelude.{◌≡◌, ◌≢◌, ℕ, ◌+◌, ◌<◌, ◌≤◌, List, [], ◌∷◌, ◌++◌, length, Option, None, Some}
use Rattle.race_core.specs.declared.ends.End.{End}
use Rattle.race_core.specs.declared.ends.EndKind.{EndKind}
use Rattle.race_core.specs.declared.events.Entry.{Entry}
use Rattle.race_core.specs.Ends.{kind_in}
use Rattle.race_core.specs.Races.{Race}
use Rattle.atomic_table.specs.Table.{Step, Me}
use Rattle.version_cell.specs.declared.board.Sight.{Sight}
use Rattle.version_cell.specs.Counts.{times, once_below, Begins}
use Rattle.version_cell.specs.Views.{held_of, holding, with_entry, informed, with_end}

module _ {E : Type 0} where
  -- a live seat that holds nothing
  pub record IsIdle (m : Me (Option (Race E)) (Sight E)) : Type 0 where
    pub shares : 0 < m.0.shares
    pub free : m.0.held ≡ None
    pub carries : m.1 ≡ []

  -- each place of the state's history is one of the view's own, once, and the end is the view's own
  pub record IsAllOwn (v : Sight E) (c : Race E) : Type 0 where
    pub places : (p : ℕ) → times p v.own ≡ once_below p (length c.history)
    pub end : c.end ≡ v.finish

  -- The state is of the view's program and limit, its history begins with what the view has seen, and a kind of end that the
  -- view has seen is that of the state's end, and the view has then seen its history. A view with all shares owns all of it.
  pub record GoesOn (v : Sight E) (c : Race E) : Type 0 where
    pub program : c.program ≡ v.program
    pub limit : c.limit ≡ v.limit
    pub seen : Begins v.seen c.history
    pub ended : (k : EndKind) → v.ended ≡ Some k → (kind_in c.end ≡ Some k) × (v.seen ≡ c.history)
    pub whole : v.shares ≡ v.total → IsAllOwn v c

  -- the holder names this history and end, and the state has its program and limit
  pub record Holds (v : Sight E) (c : Race E) : Type 0 where
    pub shares : 0 < v.shares
    pub program : c.program ≡ v.program
    pub limit : c.limit ≡ v.limit
    pub names : v.held ≡ Some (held_of c)

  -- the holder names what the state was before one entry was added to its history; no end was set, and none is
  pub record Grows (v : Sight E) (c : Race E) : Type 0 where
    pub shares : 0 < v.shares
    pub program : c.program ≡ v.program
    pub limit : c.limit ≡ v.limit
    pub before : Race E
    pub entry : Entry E
    pub names : v.held ≡ Some (held_of before)
    pub longer : c.history ≡ before.history ++ entry ∷ []
    pub was_open : before.end ≡ None
    pub is_open : c.end ≡ None

  -- the holder names what the state was before its end was set, and the end is set
  pub record Closes (v : Sight E) (c : Race E) : Type 0 where
    pub shares : 0 < v.shares
    pub program : c.program ≡ v.program
    pub limit : c.limit ≡ v.limit
    pub before : Race E
    pub end : End
    pub names : v.held ≡ Some (held_of before)
    pub same : c.history ≡ before.history
    pub was_open : before.end ≡ None
    pub is_set : c.end ≡ Some end

  -- the state that is out with a seat
  abbrev pub out : List (ℕ × Option (Race E)) → Option (Race E)
  out [] = None
  out (x ∷ xs) = x.1

  -- win turn, with take slot, where the turn was free; lose turn, where it was held
  abbrev pub won : Step (Option (Race E)) → Me (Option (Race E)) (Sight E) → ℕ → Me (Option (Race E)) (Sight E) → Type 0
  won st m n m' =
      (n ≡ 0 → (c : Race E) × (m' ≡ (holding m.0 c, (0, Some c) ∷ m.1)) × GoesOn m.0 c) × (n ≢ 0 → m' ≡ m)

  -- bump version
  abbrev pub bumped : Step (Option (Race E)) → Me (Option (Race E)) (Sight E) → ℕ → Me (Option (Race E)) (Sight E) → Type 0
  bumped st m n m' =
      (m' ≡ (with_entry m.0 (out m.1) n, m.1)) × ((c : Race E) → out m.1 ≡ Some c → n + 1 ≡ length c.history)

  -- release turn, with put slot
  abbrev pub released : Step (Option (Race E)) → Me (Option (Race E)) (Sight E) → ℕ → Me (Option (Race E)) (Sight E) → Type 0
  released st m n m' = m' ≡ (informed m.0 (out m.1), [])

  -- release turn, with put slot, where the holder has set the end
  abbrev pub finished : Step (Option (Race E)) → Me (Option (Race E)) (Sight E) → ℕ → Me (Option (Race E)) (Sight E) → Type 0
  finished st m n m' = m' ≡ (with_end m.0 (out m.1), [])

  -- a load, after which what the view was told by a join is known
  abbrev pub looked : Step (Option (Race E)) → Me (Option (Race E)) (Sight E) → ℕ → Me (Option (Race E)) (Sight E) → Type 0
  looked st m n m' =
      (m' ≡ m) × Begins m.0.told m.0.seen
      × ((k : EndKind) → m.0.told_ended ≡ Some k → (m.0.told ≡ m.0.seen) × (m.0.ended ≡ Some k))
      × ((p : ℕ) → 0 < times p m.0.own → p < length m.0.seen) × ((p : ℕ) → times p m.0.own ≤ 1)
