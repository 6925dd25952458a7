-- What contracts know of a cell and of its passes.
use Rattle.std.specs.Prelude.{◌≡◌, ℕ, ◌+◌, ◌-◌, ◌<◌, ◌≤◌, if◌then◌else◌, List, [], ◌∷◌, ◌++◌, length, Option, None, Some}
use Rattle.nwa_base.specs.declared.letters.Letter.{Letter}
use Rattle.nwa_base.specs.Automata.{Automaton}
use Rattle.race_core.specs.declared.ends.End.{End}
use Rattle.race_core.specs.declared.ends.EndKind.{EndKind}
use Rattle.race_core.specs.declared.events.Entry.{Entry}
use Rattle.race_core.specs.declared.events.Why.{Why}
use Rattle.race_core.specs.declared.events.Why.TheVariants.{Ended, Full, Stale}
use Rattle.race_core.specs.Ends.{kind_of, kind_in}
use Rattle.race_core.specs.Histories.{IsLegal}
use Rattle.atomic_table.specs.Seated.{TableId}
use Rattle.version_cell.specs.declared.board.Sight.{Sight}
use Rattle.race_core.specs.Races.{Race}
use Rattle.version_cell.specs.Counts.{times, once_below, Begins}
use Rattle.version_cell.specs.Views.{picks_first, first_of}

-- A cell: what no other cell shares with it, its program, its limit, and its number of shares.
pub record Cell : Type 0 where
  pub id : TableId
  pub program : Automaton
  pub limit : ℕ
  pub shares : ℕ

-- the table of a cell has two words and one slot
abbrev pub IsTable : TableId → Type 0
IsTable z = (z.words ≡ 2) × (z.slots ≡ 1)

-- What a pass knows: its cell with program, limit and number of shares, its own shares, the history that it has seen, the kind
-- of the end that it has seen, the places of its own entries, and its own end.
pub record Known (E : Type 0) : Type 0 where
  pub cell : TableId
  pub program : Automaton
  pub limit : ℕ
  pub total : ℕ
  pub shares : ℕ
  pub seen : List (Entry E)
  pub ended : Option EndKind
  pub own : List ℕ
  pub finish : Option End

module _ {E : Type 0} where
  -- what a seat's view tells
  abbrev pub known : TableId → Sight E → Known E
  known z v =
      record {
        cell = z;
        program = v.program;
        limit = v.limit;
        total = v.total;
        shares = v.shares;
        seen = v.seen;
        ended = v.ended;
        own = v.own;
        finish = v.finish;
      }

  -- the pass is of the cell
  pub record IsPassOf (c : Cell) (p : Known E) : Type 0 where
    pub cell : p.cell ≡ c.id
    pub program : p.program ≡ c.program
    pub limit : p.limit ≡ c.limit
    pub total : p.total ≡ c.shares

  -- the first pass of a cell: it has all shares and has seen nothing
  abbrev pub newcomer : Cell → Known E
  newcomer c =
      record {
        cell = c.id;
        program = c.program;
        limit = c.limit;
        total = c.shares;
        shares = c.shares;
        seen = [];
        ended = None;
        own = [];
        finish = None;
      }

  -- What every pass keeps: it has a share, the history that it has seen is legal, and its own places lie below its length, each
  -- listed once.
  pub record IsValid (automaton : E → Automaton) (feasible : E → List Letter → Type 0) (p : Known E) : Type 0 where
    pub shares : 0 < p.shares
    pub legal : IsLegal automaton feasible p.program p.seen
    pub below : (place : ℕ) → 0 < times place p.own → place < length p.seen
    pub once : (place : ℕ) → times place p.own ≤ 1

  -- At one moment the cell had this history, which begins with what the pass had seen, and this end, of the kind that the pass
  -- had seen. Where it had seen one, the history is what it had seen.
  abbrev pub WasAt : Known E → List (Entry E) → Option End → Type 0
  WasAt p h e = Begins p.seen h × ((k : EndKind) → p.ended ≡ Some k → (kind_in e ≡ Some k) × (p.seen ≡ h))

  -- the pass has seen this history and the kind of this end
  abbrev pub shown : Known E → List (Entry E) → Option End → Known E
  shown p h e = record p { seen = h; ended = kind_in e }

  -- the pass has seen this history with the entry after it, and owns the entry at this place
  abbrev pub owning : Known E → List (Entry E) → Entry E → ℕ → Known E
  owning p h entry place = record p { seen = h ++ entry ∷ []; ended = None; own = p.own ++ place ∷ [] }

  -- the pass has seen this history and the kind of this end, and owns the end
  abbrev pub ending : Known E → List (Entry E) → End → Known E
  ending p h end = record p { seen = h; ended = Some (kind_of end); finish = Some end }

  -- one share less
  abbrev pub lessened_pass : Known E → Known E
  lessened_pass p = record p { shares = p.shares - 1 }

  -- a pass with one share that has seen the same and owns nothing
  abbrev pub part_of_pass : Known E → Known E
  part_of_pass p = record p { shares = 1; own = []; finish = None }

  -- Two passes as one: the shares, own places and ends of both, and the history and kind of end of the first where it has seen
  -- an end, else of the second where it has, else of the one that has seen more.
  abbrev pub joined : Known E → Known E → Known E
  joined p q =
      let first = picks_first p.ended q.ended (length p.seen) (length q.seen) in
      record p {
        shares = p.shares + q.shares;
        seen = if first then p.seen else q.seen;
        ended = if first then p.ended else q.ended;
        own = p.own ++ q.own;
        finish = first_of p.finish q.finish;
      }

  -- What the first pass had seen begins what the second has, and a kind of end that the first had seen is that of the second,
  -- which has then seen the same history.
  abbrev pub Continues : Known E → Known E → Type 0
  Continues p q = Begins p.seen q.seen × ((k : EndKind) → p.ended ≡ Some k → (p.seen ≡ q.seen) × (q.ended ≡ Some k))

  -- A refusal says what the pass has then seen: with Ended the kind of the end, with Full the limit, which is the length of the
  -- history, with Stale the length of the history.
  abbrev pub Names : Known E → Why → Type 0
  Names p (Ended k) = p.ended ≡ Some k
  Names p (Full n) = (n ≡ p.limit) × (length p.seen ≡ n)
  Names p (Stale n) = length p.seen ≡ n

  -- What closing by a whole pass gives: the state of its program and limit, whose history begins with what it has seen and has
  -- each of its own entries once and no others, and whose end is its own.
  pub record IsClosed (p : Known E) (c : Race E) : Type 0 where
    pub program : c.program ≡ p.program
    pub limit : c.limit ≡ p.limit
    pub seen : Begins p.seen c.history
    pub own : (place : ℕ) → times place p.own ≡ once_below place (length c.history)
    pub end : c.end ≡ p.finish
    pub ended : (k : EndKind) → p.ended ≡ Some k → (kind_in c.end ≡ Some k) × (c.history ≡ p.seen)
