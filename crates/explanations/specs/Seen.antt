-- The topics and faults of the code, which borrow the bytes of texts, as those of the definitions.
use Rattle.std.specs.Prelude.{option_map}
use Rattle.explanations.specs.AtFault as at_fault
use Rattle.explanations.specs.AtHand.{FaultView}
use Rattle.explanations.specs.declared.at_hand.AtHand.{AtHand}
use Rattle.explanations.specs.declared.topic.Topic.{Topic}

abbrev pub seen_topic : Topic → at_fault.Topic
seen_topic topic = record { net = topic.net.now; form = topic.form.now; pin = topic.pin.now }

abbrev pub seen_fault : AtHand → FaultView
seen_fault fault = record {
  subject = fault.subject;
  name = fault.name.now;
  line = fault.line;
  text = option_map (λ text. text.now) fault.text;
  word = option_map (λ word. word.now) fault.word;
  number = fault.number;
  reason = option_map (λ reason. reason.now) fault.reason;
  circuit = option_map (λ circuit. circuit.now) fault.circuit;
}
