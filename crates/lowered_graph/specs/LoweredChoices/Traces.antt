-- Traces: a run of the automaton over a word, with the values of the frame at each position and the helpers of each inside letter.
use Rattle.std.specs.Prelude.{◌≡◌, ℕ, ℤ, List, [], ◌∷◌, Some, slice_get}
use Rattle.lin_rows.specs.Rows.{LinearRow}
use Rattle.nwa_base.specs.declared.letters.Letter.{Letter}
use Rattle.nwa_base.specs.Members.{Member}
use Rattle.letter_acts.specs.declared.sites.Site.{Site}
use Rattle.letter_acts.specs.Acts.{inside_act, call_act, back_act, Alphabet, frame_of, act_of}
use Rattle.letter_acts.specs.Meaning.{InsideLeads, CallLeads, BackLeads}
use Rattle.letter_acts.specs.Ways.{Steps, GoesAlong}
use Rattle.letter_acts.specs.Invariant.{Graph, alphabet_of}

-- A position: the state of the run, the values of the columns of the frame there, and the helpers of the inside letter that leads to it. Those of
-- other letters are not asked for.
pub record TracePosition : Type 0 where
  pub place : ℕ
  pub values : List ℤ
  pub helpers : List ℤ

-- ---- letters

-- an inside letter leads from x to y, and its rows hold with the helpers of y
pub record LeadsInside (al : Alphabet) (a : Letter) (x y : TracePosition) : Type 0 where
  pub proc : ℕ
  pub written : List ℕ
  pub helpers : ℕ
  pub rows : List LinearRow
  pub act : act_of al a ≡ Some (inside_act proc written helpers rows)
  pub leads : InsideLeads (frame_of al proc) written helpers rows x.values y.values
  pub helped : leads.rows_hold.helpers ≡ y.helpers

-- a call leads from x to y
pub record LeadsIn (al : Alphabet) (a : Letter) (x y : TracePosition) : Type 0 where
  pub caller : ℕ
  pub callee : ℕ
  pub helpers : ℕ
  pub rows : List LinearRow
  pub act : act_of al a ≡ Some (call_act caller callee helpers rows)
  pub leads : CallLeads (frame_of al caller) (frame_of al callee) helpers rows x.values y.values

-- a return leads from x, where its call was made at b, to y
pub record LeadsBack (al : Alphabet) (a : Letter) (x b y : TracePosition) : Type 0 where
  pub call : ℕ
  pub targets : List ℕ
  pub caller : ℕ
  pub callee : ℕ
  pub helpers : ℕ
  pub rows : List LinearRow
  pub act : act_of al a ≡ Some (back_act call targets)
  pub called : slice_get al.acts call ≡ Some (call_act caller callee helpers rows)
  pub leads : BackLeads (frame_of al caller) (frame_of al callee) helpers rows targets x.values b.values y.values

-- what the edges of a graph and their letters allow between positions
abbrev pub told_steps : Graph → Steps TracePosition
told_steps g = record {
  inside = λ a x y. Member g.automaton.insides (x.place, a, y.place) × LeadsInside (alphabet_of g) a x y;
  call = λ a x y. Member g.automaton.calls (x.place, a, y.place) × LeadsIn (alphabet_of g) a x y;
  back = λ a x b y. Member g.automaton.backs (x.place, b.place, a, y.place) × LeadsBack (alphabet_of g) a x b y;
}

-- ---- traces

-- the place of the last of these positions, and q where there is none
abbrev pub last_place : ℕ → List TracePosition → ℕ
last_place q [] = q
last_place q (x ∷ xs) = last_place x.place xs

-- A trace of a word that ends where assertion i fails: a position before the first letter, at the start of the automaton, and one behind each letter;
-- each letter leads from its position to the next, a return seeing the position at which its call was made.
pub record IsTrace (g : Graph) (i : ℕ) (w : List Letter) (first : TracePosition) (more : List TracePosition) : Type 0 where
  pub start : first.place ≡ g.automaton.start
  pub along : GoesAlong (told_steps g) w (first ∷ more)
  pub site : Site
  pub is_site : Member g.sites site
  pub number : site.id.number ≡ i
  pub ends : last_place first.place more ≡ site.place
