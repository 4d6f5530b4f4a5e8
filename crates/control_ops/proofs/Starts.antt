-- What begins stands, where an operand names it.
use Rattle.std.proofs.Common.{◌≡◌, ℕ, Bool, true, false, cond, Result, Ok, Err, sym, ap, ◌∙◌}
use Rattle.ps_names.specs.declared.error_name.ErrorName.{ErrorName}
use Rattle.ps_objects.specs.Access.{run_right}
use Rattle.ps_objects.specs.Operands.{object_at}
use Rattle.ps_objects.specs.declared.access.Access.{Access}
use Rattle.ps_objects.specs.declared.cell.Cell.{Cell}
use Rattle.ps_objects.specs.declared.object.Kind.{Kind}
use Rattle.ps_objects.specs.declared.object.Kind.TheVariants as kind
use Rattle.ps_objects.specs.declared.object.Object.{Object}
use Rattle.ps_objects.specs.declared.objects.Interval.{Interval}
use Rattle.ps_kinds.specs.declared.state.State.{State}
use Rattle.ps_memory.specs.Memory.{Memory}
use Rattle.ps_meaning.specs.Ready.{Ready}
use Rattle.ps_operator.specs.Standing.{is_dict, is_string, is_named}
use Rattle.ps_operator.proofs.Standing.{object_stands}
use Rattle.control_ops.specs.Executing.{allowed, start_kind, start_of}
use Rattle.control_ops.specs.Loops.{walked_of}
use Rattle.control_ops.specs.declared.executing.Start.TheVariants as start
use Rattle.control_ops.specs.declared.walking.Walked.TheVariants as walked

called_is : (r : Result (Unit {0}) ErrorName) (part : Interval) → allowed r start.Called ≡ Ok (start.Scanned part) → ⊥
called_is (Ok u) part e = cc
called_is (Err x) part e = cc

scanned_is : (r : Result (Unit {0}) ErrorName) (a b : Interval) → allowed r (start.Scanned a) ≡ Ok (start.Scanned b) → a ≡ b
scanned_is (Ok u) a b e = cc
scanned_is (Err x) a b e = cc

kind_scanned : (a : Access) (k : Kind) (part : Interval) → start_kind a k ≡ Ok (start.Scanned part) → k ≡ kind.Str part
kind_scanned a (kind.Str b) part e = ap kind.Str (scanned_is (run_right a) b part e)
kind_scanned a (kind.Array b packed) part e = absurd (called_is (run_right a) part e)
kind_scanned a (kind.Integer n) part e = cc
kind_scanned a (kind.Real n) part e = cc
kind_scanned a (kind.Boolean b) part e = cc
kind_scanned a kind.Null part e = cc
kind_scanned a kind.Mark part e = cc
kind_scanned a (kind.Name n) part e = cc
kind_scanned a (kind.Operator n) part e = cc
kind_scanned a (kind.Dict c) part e = cc
kind_scanned a (kind.File n) part e = cc
kind_scanned a (kind.Filter n m) part e = cc
kind_scanned a (kind.Save q) part e = cc
kind_scanned a (kind.FontId c) part e = cc

-- only a string is scanned
pub scanned_kind : (x : Object) (part : Interval) → start_of x ≡ Ok (start.Scanned part) → x.kind ≡ kind.Str part
scanned_kind x part e = go x.exec e
  where
    go : (b : Bool) → cond b (start_kind x.access x.kind) (Ok start.Pushed) ≡ Ok (start.Scanned part) → x.kind ≡ kind.Str part
    go true e = kind_scanned x.access x.kind part e
    go false e = cc

pub scanned_stands : (s : State) (M : Memory) (r : Ready s M) (i : ℕ) (x : Object) (part : Interval) → object_at i s.regs.operands ≡ Ok x → start_of x ≡ Ok (start.Scanned part) → is_string M part ≡ true
scanned_stands s M r i x part e h = sym (ap (is_named M) (scanned_kind x part h)) ∙ object_stands s M r i x e

-- only a dictionary has pairs
pub walked_kind : (k : Kind) (d : Cell) → walked_of k ≡ Ok (walked.Pairs d) → k ≡ kind.Dict d
walked_kind (kind.Dict c) d e = cc
walked_kind (kind.Str a) d e = cc
walked_kind (kind.Array a packed) d e = cc
walked_kind (kind.Integer n) d e = cc
walked_kind (kind.Real n) d e = cc
walked_kind (kind.Boolean b) d e = cc
walked_kind kind.Null d e = cc
walked_kind kind.Mark d e = cc
walked_kind (kind.Name n) d e = cc
walked_kind (kind.Operator n) d e = cc
walked_kind (kind.File n) d e = cc
walked_kind (kind.Filter n m) d e = cc
walked_kind (kind.Save q) d e = cc
walked_kind (kind.FontId c) d e = cc

pub walked_stands : (s : State) (M : Memory) (r : Ready s M) (i : ℕ) (x : Object) (d : Cell) → object_at i s.regs.operands ≡ Ok x → walked_of x.kind ≡ Ok (walked.Pairs d) → is_dict M d ≡ true
walked_stands s M r i x d e h = sym (ap (is_named M) (walked_kind x.kind d h)) ∙ object_stands s M r i x e
