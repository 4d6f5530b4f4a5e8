-- Each operator keeps a state that fits: its tree again, with what fits beside each end.
use Rattle.std.proofs.Common.{ℕ, List, [], ◌∷◌, ◌++◌, drop}
use Rattle.ps_shapes.specs.declared.clip.Clip.{Clip}
use Rattle.ps_shapes.specs.declared.path.Segment.{Segment}
use Rattle.ps_shapes.specs.declared.polygon.Rule.{Rule}
use Rattle.ps_shapes.specs.declared.polygon.Rule.TheVariants.{NonZero, EvenOdd}
use Rattle.ps_kinds.specs.declared.state.State.{State}
use Rattle.ps_meaning.specs.Ready.{Fits}
use Rattle.ps_meaning.specs.Sound.{World}
use Rattle.ps_operator.specs.Lawful.{Keeps, IsLawful}
use Rattle.ps_operator.specs.Operators.{AreLawful}
use Rattle.ps_operator.specs.Registers.{ops}
use Rattle.ps_operator.proofs.Ending.{registers_keeps}
use Rattle.ps_operator.proofs.Fitting.{drop_fits}
use Rattle.ps_operator.proofs.Lawful.{read_keeps}
use Rattle.ps_operator.proofs.Running.{◌▹◌, all_lawful}
use Rattle.clip_ops.specs.Flats.{lines_of, polygons_of}
use Rattle.clip_ops.specs.Clips.{path_of, clips_of, shows, clip_room, flattenpath, initclip, clipped_by}
use Rattle.clip_ops.specs.Operators.{operators, run}

-- ends with other clips and another path
shows_keeps : (text : List ℕ) (s : State) (W : World) → Fits text W s → (n : ℕ) (clips : List Clip) (path : List Segment) → Keeps text 4 s.frames (shows s n clips path) s W
shows_keeps text s W f n clips path =
    let r = f.state.registers in
    let g = r.state in
    registers_keeps f (record s.regs { operands = drop n (ops s); state = record s.regs.state { clips = clips; path = path } })
    (record {
      operands = drop_fits W.shapes n (ops s) r.operands;
      dicts = r.dicts;
      bottom = r.bottom;
      state = record { dash = g.dash; spot = g.spot; transfer = g.transfer; halftone = g.halftone; font = g.font };
      states = r.states;
      marks = r.marks;
      size = r.size;
    })

flattenpath_keeps : IsLawful flattenpath
flattenpath_keeps text s W f = read_keeps (lines_of (path_of s)) (λ path _. shows_keeps text s W f 0 (clips_of s) path)

initclip_keeps : IsLawful initclip
initclip_keeps text s W f = shows_keeps text s W f 0 [] (path_of s)

clipped_keeps : (rule : Rule) → IsLawful (clipped_by rule)
clipped_keeps rule text s W f =
    read_keeps (polygons_of (path_of s)) (λ polygons _.
    read_keeps (clip_room (clips_of s)) (λ _ _.
    shows_keeps text s W f 0 (clips_of s ++ record { rule = rule; polygons = polygons } ∷ []) (path_of s)))

all_keep : AreLawful operators
all_keep = flattenpath_keeps ▹ initclip_keeps ▹ clipped_keeps NonZero ▹ clipped_keeps EvenOdd ▹ tt

pub run_keeps : (n : ℕ) → IsLawful (run n)
run_keeps = all_lawful operators all_keep
