-- Each operator keeps a state that fits: its tree again, with what fits beside each look and end.
use Rattle.std.proofs.Common.{◌≡◌, ℕ, Bool, true, false, not, List, [], ◌∷◌, drop, Option, Some, None, Ok, refl, subst}
use Rattle.std.specs.Bool.{⊤}
use Rattle.ps_objects.specs.declared.access.Access.{Access}
use Rattle.ps_objects.specs.declared.access.Access.TheVariants.{ReadOnly, ExecuteOnly, NoAccess}
use Rattle.ps_objects.specs.declared.cell.Cell.{Cell}
use Rattle.ps_objects.specs.declared.object.Kind.{Kind}
use Rattle.ps_objects.specs.declared.object.Kind.TheVariants as kind
use Rattle.ps_objects.specs.declared.object.Object.{Object}
use Rattle.ps_objects.specs.Access.{read_right, run_right}
use Rattle.ps_objects.specs.Object.{cell_named}
use Rattle.ps_objects.specs.Operands.{needed, object_at}
use Rattle.ps_kinds.specs.declared.state.State.{State}
use Rattle.ps_meaning.specs.Fits.{FitsObject}
use Rattle.ps_meaning.specs.Ready.{Fits}
use Rattle.ps_meaning.specs.Sound.{World}
use Rattle.ps_operator.specs.Budgets.{is_local}
use Rattle.ps_operator.specs.Lawful.{HasDict, Keeps, IsLawful}
use Rattle.ps_operator.specs.Operators.{AreLawful}
use Rattle.ps_operator.specs.Registers.{ops, literal}
use Rattle.ps_operator.proofs.Fitting.{Fit, drop_fits, object_fits, dict_fits}
use Rattle.ps_operator.proofs.Lawful.{read_keeps, access_keeps, leaves_kept, leaves_keeps}
use Rattle.ps_operator.proofs.Running.{◌▹◌, all_lawful}
use Rattle.object_ops.specs.Attributes.{type_name, executable_name, attributed, type_, cvlit, cvx, xcheck}
use Rattle.object_ops.specs.Accesses.{own_access, access_holder, guarded, guards_dict, leaves_guarded, readonly_in, noaccess_in, lets_read, lets_write, tells, tells_access, executeonly, readonly, noaccess, rcheck, wcheck, gcheck}
use Rattle.object_ops.specs.Operators.{operators, run}
use Rattle.object_ops.proofs.Bound.{bind_keeps}

-- ---- types and attributes

type_keeps : IsLawful type_
type_keeps text s W f =
    read_keeps (needed 1 (ops s)) (λ _ _.
    read_keeps (object_at 0 (ops s)) (λ x _.
    leaves_keeps f (executable_name (type_name x.kind) ∷ drop 1 (ops s)) (tt, drop_fits W.shapes 1 (ops s) f.state.registers.operands)))

cvlit_keeps : IsLawful cvlit
cvlit_keeps text s W f =
    let o : Fit W.shapes (ops s) = f.state.registers.operands in
    read_keeps (needed 1 (ops s)) (λ _ _.
    read_keeps (object_at 0 (ops s)) (λ x p.
    leaves_keeps f (attributed false x ∷ drop 1 (ops s)) (object_fits W.shapes (ops s) 0 x o p, drop_fits W.shapes 1 (ops s) o)))

cvx_keeps : IsLawful cvx
cvx_keeps text s W f =
    let o : Fit W.shapes (ops s) = f.state.registers.operands in
    read_keeps (needed 1 (ops s)) (λ _ _.
    read_keeps (object_at 0 (ops s)) (λ x p.
    leaves_keeps f (attributed true x ∷ drop 1 (ops s)) (object_fits W.shapes (ops s) 0 x o p, drop_fits W.shapes 1 (ops s) o)))

xcheck_keeps : IsLawful xcheck
xcheck_keeps text s W f =
    read_keeps (needed 1 (ops s)) (λ _ _.
    read_keeps (object_at 0 (ops s)) (λ x _.
    leaves_keeps f (literal (kind.Boolean x.exec) ∷ drop 1 (ops s)) (tt, drop_fits W.shapes 1 (ops s) f.state.registers.operands)))

-- ---- access

module _ (text : List ℕ) (s : State) (W : World) (f : Fits text W s) (x : Object) (p : object_at 0 (ops s) ≡ Ok x) where
  guarded_keeps : (a : Access) → Keeps text 4 s.frames (leaves_guarded s a x) s W
  guarded_keeps a =
      leaves_keeps f (guarded a x ∷ drop 1 (ops s))
      (object_fits W.shapes (ops s) 0 x f.state.registers.operands p, drop_fits W.shapes 1 (ops s) f.state.registers.operands)

  dict_keeps : (a : Access) (d : Cell) → HasDict W.shapes d → Keeps text 4 s.frames (guards_dict s a d) s W
  dict_keeps a d h = record { lawful = (h.stands, refl, tt, (λ _. tt), leaves_kept text 4 s W f (ops s) f.state.registers.operands) }

  tells_keeps : (b : Bool) → Keeps text 4 s.frames (tells s b) s W
  tells_keeps b = leaves_keeps f (literal (kind.Boolean b) ∷ drop 1 (ops s)) (tt, drop_fits W.shapes 1 (ops s) f.state.registers.operands)

  -- the dictionary stands, if there is one
  abbrev Holds : Option Cell → Type 0
  Holds None = ⊤
  Holds (Some d) = HasDict W.shapes d

  holder_kind : (k : Kind) (there : Option Cell) → object_at 0 (record x { kind = k } ∷ []) ≡ Ok (record x { kind = k }) → FitsObject W.shapes (record x { kind = k }) → access_holder k ≡ Ok there → Holds there
  holder_kind (kind.Dict d) (Some c) q h e = let g : d ≡ c = cc in subst (HasDict W.shapes) g (dict_fits W.shapes (record x { kind = kind.Dict d } ∷ []) 0 d (h, tt) refl)
  holder_kind k None q h e = tt
  holder_kind _ (Some c) q h e = cc

  holder_fits : (there : Option Cell) → access_holder x.kind ≡ Ok there → Holds there
  holder_fits there e = holder_kind x.kind there refl (object_fits W.shapes (ops s) 0 x f.state.registers.operands p) e

  readonly_at : (there : Option Cell) → Holds there → Keeps text 4 s.frames (readonly_in s x there) s W
  readonly_at None h = read_keeps (read_right x.access) (λ _ _. guarded_keeps ReadOnly)
  readonly_at (Some d) h = access_keeps h (λ a. read_keeps (read_right a) (λ _ _. dict_keeps ReadOnly d h))

  noaccess_at : (there : Option Cell) → Holds there → Keeps text 4 s.frames (noaccess_in s x there) s W
  noaccess_at None h = guarded_keeps NoAccess
  noaccess_at (Some d) h = dict_keeps NoAccess d h

  check_at : (lets : Access → Bool) (there : Option Cell) → Holds there → Keeps text 4 s.frames (tells_access s lets x there) s W
  check_at lets None h = tells_keeps (lets x.access)
  check_at lets (Some d) h = access_keeps h (λ a. tells_keeps (lets a))

executeonly_keeps : IsLawful executeonly
executeonly_keeps text s W f =
    read_keeps (needed 1 (ops s)) (λ _ _.
    read_keeps (object_at 0 (ops s)) (λ x p.
    read_keeps (own_access x.kind) (λ _ _.
    read_keeps (run_right x.access) (λ _ _.
    guarded_keeps text s W f x p ExecuteOnly))))

readonly_keeps : IsLawful readonly
readonly_keeps text s W f =
    read_keeps (needed 1 (ops s)) (λ _ _.
    read_keeps (object_at 0 (ops s)) (λ x p.
    read_keeps (access_holder x.kind) (λ there e.
    readonly_at text s W f x p there (holder_fits text s W f x p there e))))

noaccess_keeps : IsLawful noaccess
noaccess_keeps text s W f =
    read_keeps (needed 1 (ops s)) (λ _ _.
    read_keeps (object_at 0 (ops s)) (λ x p.
    read_keeps (access_holder x.kind) (λ there e.
    noaccess_at text s W f x p there (holder_fits text s W f x p there e))))

rcheck_keeps : IsLawful rcheck
rcheck_keeps text s W f =
    read_keeps (needed 1 (ops s)) (λ _ _.
    read_keeps (object_at 0 (ops s)) (λ x p.
    read_keeps (access_holder x.kind) (λ there e.
    check_at text s W f x p lets_read there (holder_fits text s W f x p there e))))

wcheck_keeps : IsLawful wcheck
wcheck_keeps text s W f =
    read_keeps (needed 1 (ops s)) (λ _ _.
    read_keeps (object_at 0 (ops s)) (λ x p.
    read_keeps (access_holder x.kind) (λ there e.
    check_at text s W f x p lets_write there (holder_fits text s W f x p there e))))

gcheck_keeps : IsLawful gcheck
gcheck_keeps text s W f =
    read_keeps (needed 1 (ops s)) (λ _ _.
    read_keeps (object_at 0 (ops s)) (λ x p.
    tells_keeps text s W f x p (not (is_local (cell_named x.kind)))))

-- ---- all of them

all_keep : AreLawful operators
all_keep =
    type_keeps ▹ cvlit_keeps ▹ cvx_keeps ▹ xcheck_keeps ▹ executeonly_keeps ▹ readonly_keeps ▹ noaccess_keeps
    ▹ rcheck_keeps ▹ wcheck_keeps ▹ gcheck_keeps ▹ bind_keeps ▹ tt

pub run_keeps : (n : ℕ) → IsLawful (run n)
run_keeps = all_lawful operators all_keep
