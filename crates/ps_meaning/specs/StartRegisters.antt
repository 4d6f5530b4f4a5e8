-- The registers with which a job starts, from its settings.
use Rattle.std.specs.Prelude.{ℕ, ◌*◌, pos, neg_ℤ, Ok, Err, false, [], ◌∷◌}
use Rattle.ps_shapes.specs.declared.numbers.Matrix.{Matrix}
use Rattle.ps_shapes.specs.declared.numbers.Real.{Real}
use Rattle.ps_objects.specs.Object.{whole_of}
use Rattle.ps_objects.specs.declared.object.Object.{Object}
use Rattle.ps_objects.specs.declared.object.Kind.TheVariants as kind
use Rattle.ps_objects.specs.declared.settings.Settings.{Settings}
use Rattle.ps_fixed.specs.Arithmetic.{quotient_of}
use Rattle.ps_kinds.specs.declared.graphics.Colour.TheVariants.{Gray}
use Rattle.ps_kinds.specs.declared.graphics.GState.{GState}
use Rattle.ps_kinds.specs.declared.ranges.LineCap.TheVariants.{Butt}
use Rattle.ps_kinds.specs.declared.ranges.LineJoin.TheVariants.{Miter}
use Rattle.ps_kinds.specs.declared.regs.Regs.{Regs}
use Rattle.ps_memory.specs.Memory.{null_object}
use Rattle.ps_meaning.specs.Registers.{system_dict, global_dict, user_dict}
use Rattle.ps_meaning.specs.StartCells.{empty_dash}
use Rattle.ps_meaning.specs.StartEntries.{literal}

-- a whole number as a real
abbrev pub whole_real : ℕ → Real
whole_real n = record { count = pos (n * 16777216) }

-- the pixels of a point, 1/72 of an inch: the quotient of reals, which is never undefined
abbrev pub scale_of : (dpi : ℕ) → Real
scale_of dpi = elim (quotient_of (whole_real dpi) (whole_real 72)) [ Ok s ↦ s | Err e ↦ whole_real 0 ]

-- From points upward from the lower left corner to pixels downward from the upper left one (section 4.3 of the language manual)
abbrev pub default_matrix : (dpi height : ℕ) → Matrix
default_matrix dpi height = record {
  a = scale_of dpi;
  b = whole_real 0;
  c = whole_real 0;
  d = record { count = neg_ℤ (scale_of dpi).count };
  tx = whole_real 0;
  ty = whole_real height;
}

-- the empty array that `currentdash` gives at first
abbrev pub empty_dash_object : Object
empty_dash_object = literal (kind.Array (whole_of empty_dash 0) false)

-- the graphics state at the start of a job
abbrev pub start_state : Settings → GState
start_state s = record {
  ctm = default_matrix s.dpi s.height;
  path = [];
  clips = [];
  colour = Gray (whole_real 0);
  width = whole_real 1;
  cap = Butt;
  join = Miter;
  miter = whole_real 10;
  dash = empty_dash_object;
  offset = whole_real 0;
  lengths = [];
  flat = whole_real 1;
  adjust = false;
  frequency = whole_real 60;
  angle = whole_real 45;
  spot = null_object;
  transfer = null_object;
  halftone = null_object;
  thresholds = record { width = 0; height = 0; bytes = [] };
  font = null_object;
  wide = s.width;
  high = s.height;
}

-- the registers at the start of a job: no operands, and the three dictionaries that no program takes from their stack
abbrev pub start_registers : Settings → Regs
start_registers s = record {
  operands = [];
  dicts = user_dict ∷ global_dict ∷ system_dict ∷ [];
  state = start_state s;
  states = [];
  saves = [];
  global = false;
  packing = false;
}
