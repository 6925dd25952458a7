-- Configurations stay those of their program.
use Rattle.std.proofs.Common.{◌≡◌, ◌<◌, ℕ, ◌+◌, ℤ, List, [], ◌∷◌, ◌++◌, length, length-append, slice_index_or, slice_set, length-set, subst, sym, ◌∙◌, arith}
use Rattle.typed_tree.specs.TypedTree.{TypedProgram}
use Rattle.typed_tree.specs.TypingRules.TypedParts.{TypedParts, typed_program}
use Rattle.boogie_run.specs.BoogiePoints.Room.{PointHasRoom}
use Rattle.boogie_run.specs.BoogiePoints.View.{point_of}
use Rattle.boogie_run.specs.declared.configurations.RunFrame.{RunFrame}
use Rattle.boogie_run.specs.declared.configurations.Config as code
use Rattle.boogie_run.specs.Configurations.{Frame}
use Rattle.boogie_run.specs.RunView.{frame_of, frames_of, config_with, HaveRoom, FitsProgram}
use Rattle.boogie_run.proofs.FrameLemmas.{frames_of-append, length-frames_of, top_is, with_top}

-- the point of the frame that runs has room
pub top_room : (t : TypedProgram) (gs : List ℤ) (fs : List RunFrame) (n : ℕ) (f : RunFrame) → length fs ≡ n + 1 → f ≡ slice_index_or fs n f →
    HaveRoom t (config_with gs (frames_of fs)) → PointHasRoom t.procs (point_of f.point)
top_room t gs fs n f h e r = subst (λ (g : Frame). PointHasRoom t.procs g.point) (top_is gs fs n f h e) r.0

-- with other globals, and another frame that runs
room_above : (t : TypedProgram) (gs hs : List ℤ) (fs : List Frame) (g : Frame) → HaveRoom t (config_with gs fs) → PointHasRoom t.procs g.point →
    HaveRoom t (record (config_with hs fs) { top = g })
room_above t gs hs [] g r h = (h, tt)
room_above t gs hs (f ∷ fs) g r h = (h, r.1)

pub room_with_top : (t : TypedProgram) (gs hs : List ℤ) (fs : List RunFrame) (n : ℕ) (g : RunFrame) → length fs ≡ n + 1 →
    HaveRoom t (config_with gs (frames_of fs)) → PointHasRoom t.procs (point_of g.point) → HaveRoom t (config_with hs (frames_of (slice_set fs n g)))
room_with_top t gs hs fs n g h r room = subst (HaveRoom t) (sym (with_top hs fs n g h)) (room_above t gs hs (frames_of fs) (frame_of g) r room)

-- the configuration with other globals, and another frame that runs
pub fits_with_top : (t : TypedParts) (c d : code.Config) (n : ℕ) (g : RunFrame) → FitsProgram t c → length c.frames.items ≡ n + 1 →
    PointHasRoom (typed_program t).procs (point_of g.point) → d.program.now ≡ c.program.now → d.numbers ≡ c.numbers → d.frames.items ≡ slice_set c.frames.items n g →
    FitsProgram t d
fits_with_top t c d n g f h room p q e =
    record {
      program = p ∙ f.program;
      numbers = q ∙ f.numbers;
      runs = rw (e, length-set) f.runs;
      room = rw e (room_with_top (typed_program t) c.globals.items d.globals.items c.frames.items n g h f.room room);
    }

-- the configuration with another frame that runs, at the same point
pub fits_at_point : (t : TypedParts) (c d : code.Config) (n : ℕ) (f g : RunFrame) → FitsProgram t c → length c.frames.items ≡ n + 1 →
    f ≡ slice_index_or c.frames.items n f → g.point ≡ f.point → d.program.now ≡ c.program.now → d.numbers ≡ c.numbers → d.frames.items ≡ slice_set c.frames.items n g →
    FitsProgram t d
fits_at_point t c d n f g fits h at e p q s =
    fits_with_top t c d n g fits h (rw e (top_room (typed_program t) c.globals.items c.frames.items n f h at fits.room)) p q s

-- the configuration with other globals
room_beside : (t : TypedProgram) (gs hs : List ℤ) (fs : List Frame) → HaveRoom t (config_with gs fs) → HaveRoom t (config_with hs fs)
room_beside t gs hs [] r = r
room_beside t gs hs (f ∷ fs) r = r

pub fits_beside : (t : TypedParts) (c d : code.Config) → FitsProgram t c → d.program.now ≡ c.program.now → d.numbers ≡ c.numbers → d.frames.items ≡ c.frames.items →
    FitsProgram t d
fits_beside t c d f p q e =
    record {
      program = p ∙ f.program;
      numbers = q ∙ f.numbers;
      runs = rw e f.runs;
      room = rw e (room_beside (typed_program t) c.globals.items d.globals.items (frames_of c.frames.items) f.room);
    }

-- the configuration with one more frame
room_pushed : (t : TypedProgram) (gs : List ℤ) (fs : List Frame) (g : Frame) → 0 < length fs → HaveRoom t (config_with gs fs) → PointHasRoom t.procs g.point →
    HaveRoom t (config_with gs (g ∷ fs))
room_pushed t gs [] g l r h = absurd (omega arith)
room_pushed t gs (f ∷ fs) g l r h = (h, r)

pub fits_pushed : (t : TypedParts) (c d : code.Config) (g : RunFrame) → FitsProgram t c → PointHasRoom (typed_program t).procs (point_of g.point) →
    d.program.now ≡ c.program.now → d.numbers ≡ c.numbers → d.globals.items ≡ c.globals.items → d.frames.items ≡ c.frames.items ++ g ∷ [] → FitsProgram t d
fits_pushed t c d g f h p q e s =
    let more : frames_of d.frames.items ≡ frame_of g ∷ frames_of c.frames.items = rw s (frames_of-append c.frames.items g) in
    record {
      program = p ∙ f.program;
      numbers = q ∙ f.numbers;
      runs = rw s (omega (arith, length-append c.frames.items (g ∷ [])));
      room =
          rw (e, more) (room_pushed (typed_program t) c.globals.items (frames_of c.frames.items) (frame_of g) (rw length-frames_of f.runs) f.room h);
    }

-- the configuration without the frame that runs, where there is another one below
room_popped : (t : TypedProgram) (gs hs : List ℤ) (fs : List Frame) (g : Frame) → 0 < length fs → HaveRoom t (config_with gs (g ∷ fs)) → HaveRoom t (config_with hs fs)
room_popped t gs hs [] g l r = absurd (omega arith)
room_popped t gs hs (f ∷ fs) g l r = r.1

pub fits_popped : (t : TypedParts) (c d : code.Config) (g : RunFrame) → FitsProgram t c → 0 < length d.frames.items →
    d.program.now ≡ c.program.now → d.numbers ≡ c.numbers → c.frames.items ≡ d.frames.items ++ g ∷ [] → FitsProgram t d
fits_popped t c d g f l p q s =
    let more : frames_of c.frames.items ≡ frame_of g ∷ frames_of d.frames.items = rw s (frames_of-append d.frames.items g) in
    record {
      program = p ∙ f.program;
      numbers = q ∙ f.numbers;
      runs = l;
      room = room_popped (typed_program t) c.globals.items d.globals.items (frames_of d.frames.items) (frame_of g) (rw length-frames_of l) (rw more at f.room);
    }
