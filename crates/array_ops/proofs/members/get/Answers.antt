use Rattle.std.proofs.Common.{Ok, sym, ap, ◌∙◌}
use Rattle.array_ops.specs.Members.{item_told, byte_told, get}
use Rattle.array_ops.specs.declared.parts.Part.TheVariants as part
use Rattle.array_ops.proofs.Going.{does_as, get_goes}
use Rattle.array_ops.proofs.members.get.Goals as goal

pub returns-in-Items : goal.returns-in-Items
returns-in-Items g c =
    let log = g.M.Mem.log in
    let s = c.args.state.now in
    let a = c.in-Items.array in
    does_as get (λ s. item_told s a) s c.get_item.new.state (log c.args.mem.now) (log c.get_item.new.mem) c.get_item.result
    (get_goes s (part.Items a) (sym c.in_ok-need.ensures) (sym c.in_ok-array.ensures ∙ ap Ok c.in-Items.is)) c.get_item.ensures

pub returns-in-Bytes : goal.returns-in-Bytes
returns-in-Bytes g c =
    let log = g.M.Mem.log in
    let s = c.args.state.now in
    let a = c.in-Bytes.string in
    does_as get (λ s. byte_told s a) s c.get_byte.new.state (log c.args.mem.now) (log c.get_byte.new.mem) c.get_byte.result
    (get_goes s (part.Bytes a) (sym c.in_ok-need.ensures) (sym c.in_ok-array.ensures ∙ ap Ok c.in-Bytes.is)) c.get_byte.ensures
