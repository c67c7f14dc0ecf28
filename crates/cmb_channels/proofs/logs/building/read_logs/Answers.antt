use Rattle.std.proofs.Common.{◌≡◌, List, ◌++◌, ◌∷◌, [], length, ap, sym, ◌∙◌, arith}
use Rattle.design.specs.Pins.{sources_of}
use Rattle.cmb_channels.specs.Logs.{LogView, empty_log, logs_read_by}
use Rattle.cmb_channels.proofs.AllLogs.{read_by_more}
use Rattle.cmb_channels.proofs.logs.building.read_logs.Goals as goal

pub loop-net-preserved : goal.loop-net-preserved
loop-net-preserved c =
    let log = c.new.ensures ∙ ap (λ pins. empty_log (length pins)) c.pins_fed.ensures.fed in
    ◌∙◌ {A = List LogView} c.in_ok-push.ensures.items
    ((λ i. c.loop-net.invariant i ++ log i ∷ []) ∙ sym (read_by_more c.loop-net.net (sources_of c.args.design.now.circuit)))

pub returns : goal.returns
returns c =
    let all : c.loop-net.net ≡ length c.args.design.now.circuit = omega (arith, c.nets-nets.ensures.count) in
    c.loop-net.invariant ∙ ap (λ nets. logs_read_by nets (sources_of c.args.design.now.circuit)) all
