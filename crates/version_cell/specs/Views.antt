-- What a seat at the cell's table knows, and how the steps change it.
use Rattle.std.specs.Prelude.{ℕ, ◌+◌, ◌-◌, Bool, true, false, nat_le, if◌then◌else◌, [], ◌∷◌, ◌++◌, length, Option, None, Some}
use Rattle.nwa_base.specs.Automata.{Automaton}
use Rattle.race_core.specs.Ends.{kind_in}
use Rattle.race_core.specs.Races.{Race}
use Rattle.version_cell.specs.declared.board.Held.{Held}
use Rattle.version_cell.specs.declared.board.Sight.{Sight}

module _ {E : Type 0} where
  -- the first view: it has all shares and has seen nothing
  abbrev pub first_sight : Automaton → ℕ → ℕ → Sight E
  first_sight program limit total =
      record {
        program = program;
        limit = limit;
        total = total;
        shares = total;
        seen = [];
        ended = None;
        own = [];
        finish = None;
        told = [];
        told_ended = None;
        held = None;
      }

  -- a spent view
  abbrev pub nobody : Sight E
  nobody = first_sight (record { states = 0; start = 0; finals = []; insides = []; calls = []; backs = [] }) 0 0

  -- the holder names the history and the end that the state has
  abbrev pub held_of : Race E → Held E
  held_of c = record { history = c.history; end = c.end }

  -- it has won the turn and holds the state
  abbrev pub holding : Sight E → Race E → Sight E
  holding v c = record v { told = []; told_ended = None; held = Some (held_of c) }

  -- it has announced a history that is one entry longer, and owns the entry at this place
  abbrev pub with_entry : Sight E → Option (Race E) → ℕ → Sight E
  with_entry v None place = v
  with_entry v (Some c) place =
      record v {
        seen = c.history;
        ended = None;
        own = v.own ++ place ∷ [];
        told = [];
        told_ended = None;
        held = Some (held_of c);
      }

  -- it has put the state back, and has seen its history and the kind of its end
  abbrev pub informed : Sight E → Option (Race E) → Sight E
  informed v None = v
  informed v (Some c) =
      record v { seen = c.history; ended = kind_in c.end; told = []; told_ended = None; held = None }

  -- the same, and it owns the end
  abbrev pub with_end : Sight E → Option (Race E) → Sight E
  with_end v None = v
  with_end v (Some c) =
      record v { seen = c.history; ended = kind_in c.end; finish = c.end; told = []; told_ended = None; held = None }

  -- one share less
  abbrev pub lessened : Sight E → Sight E
  lessened v = record v { shares = v.shares - 1 }

  -- a view with one share that has seen the same and owns nothing
  abbrev pub part_of : Sight E → Sight E
  part_of v = record v { shares = 1; own = []; finish = None; told = []; told_ended = None; held = None }

-- of two what is there, the first where both are
abbrev pub first_of : {X : Type 0} → Option X → Option X → Option X
first_of (Some x) other = Some x
first_of None other = other

-- Whose history two views have once they are one: that of the first where it has seen an end, else that of the second where
-- it has, else the longer. The numbers are the lengths of what the first and the second have seen.
abbrev pub picks_first : {K : Type 0} → Option K → Option K → ℕ → ℕ → Bool
picks_first (Some k) other first second = true
picks_first None (Some k) first second = false
picks_first None None first second = nat_le second first

module _ {E : Type 0} where
  -- of the first's and the second's, what is picked of two views
  abbrev pub of_both : {X : Type 0} → Sight E → Sight E → X → X → X
  of_both v w x y = if picks_first v.ended w.ended (length v.seen) (length w.seen) then x else y

  -- Two views as one: the shares, own places and ends of both, and what is picked of both. It is told what was not picked.
  abbrev pub both_of : Sight E → Sight E → Sight E
  both_of v w =
      record v {
        shares = v.shares + w.shares;
        seen = of_both v w v.seen w.seen;
        ended = of_both v w v.ended w.ended;
        own = v.own ++ w.own;
        finish = first_of v.finish w.finish;
        told = of_both v w w.seen v.seen;
        told_ended = of_both v w w.ended v.ended;
        held = None;
      }
