use Rattle.std.proofs.Common.{sym, ◌∙◌, ap, bytes_eq, position}
use Rattle.netlist.proofs.Places.{position-map}
use Rattle.netlist.proofs.names.Names.find.Goals as goal

pub returns-in_err-index : goal.returns-in_err-index
returns-in_err-index c =
    c.from_residual.ensures ∙ c.in_err-index.ensures.index
    ∙ sym (position-map (λ v. v.items) (bytes_eq c.args.name.now) c.self.inside.set.keys)
    ∙ ap (position (bytes_eq c.args.name.now)) c.self.view_is

pub returns : goal.returns
returns c =
    c.in_ok-index.ensures.index
    ∙ sym (position-map (λ v. v.items) (bytes_eq c.args.name.now) c.self.inside.set.keys)
    ∙ ap (position (bytes_eq c.args.name.now)) c.self.view_is
