use Rattle.std.proofs.Common.{map}
use Rattle.serde_json.specs.View.{view}
use Rattle.vcd_dump.specs.Traces.{traces}
use Rattle.timing_diagram.specs.Bus.{seen_bus}
use Rattle.timing_diagram.proofs.Pages.{page-joined}
use Rattle.timing_diagram.proofs.waves_page.push_page.Goals as goal

pub returns : goal.returns
returns c =
    page-joined c.args.columns (traces c.args.design.now.circuit c.args.shown.now c.args.waves.now) (map seen_bus c.args.buses.now)
    (view c.in_ok-data.data) c.args.text.now.items c.in_ok-json.json.items c.as_slice.result.now c.extend_from_slice.new.self.items
    c.push_unopened.new.text.items c.extend_from_slice-2.new.self.items c.in_ok-data.ensures c.in_ok-json.ensures.text c.as_slice.ensures.value
    c.in_ok-extend_from_slice.ensures.items c.in_ok-push_unopened.ensures c.in_ok-extend_from_slice-2.ensures.items
