-- Calls at the delivered gateway: over the delivered banks.
use Rattle.std.specs.Prelude.{ℕ, List}
use Rattle.banks.specs.Delivered.{delivered_ciphers, delivered_tags}
use Rattle.rules.specs.declared.component.ComponentId.{ComponentId}
use Rattle.station.specs.Protect as protects
use Rattle.station.specs.Receive as receives
use Rattle.station.specs.States.{Contents}
use Rattle.station.specs.declared.station.Station.{Station}

-- a component that is to be protected for a network
abbrev pub protect_call : Station → Contents → ℕ → ℕ → ComponentId → List ℕ → List ℕ → protects.Call
protect_call station contents reading network component cleartext output = record {
  station = station;
  contents = contents;
  ciphers = delivered_ciphers;
  tags = delivered_tags;
  reading = reading;
  network = network;
  component = component;
  cleartext = cleartext;
  output = output;
}

-- a message that came from a network
abbrev pub receive_call : Station → Contents → ℕ → ℕ → List ℕ → List ℕ → receives.Call
receive_call station contents reading network message output = record {
  station = station;
  contents = contents;
  ciphers = delivered_ciphers;
  tags = delivered_tags;
  reading = reading;
  network = network;
  message = message;
  output = output;
}
