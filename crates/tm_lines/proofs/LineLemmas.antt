-- The two parts of a packet's line.
use Rattle.std.proofs.Common.{◌≡◌, ℕ, List, ◌++◌, codes, append_assoc}
use Rattle.std.specs.Fmt.{decimal}
use Rattle.tm_packet.specs.Header.{Fields}
use Rattle.tm_lines.specs.Lines.{packet_line}
use Rattle.tm_lines.specs.code.Parts.{packet_beginning, packet_end}

pub beginning_before : (seen channel first : ℕ) (rest : List ℕ) → packet_beginning seen channel first ++ rest
    ≡ codes "packet record=" ++ (decimal seen ++ (codes " channel=" ++ (decimal channel ++ (codes " from=" ++ (decimal first ++ (codes " at=" ++ rest))))))
unfolding packet_beginning
beginning_before seen channel first rest = simp append_assoc

pub line_of_parts : (seen channel first place : ℕ) (h : Fields) (octets : ℕ) → packet_beginning seen channel first ++ packet_end place h octets ≡ packet_line seen channel first place h octets
unfolding packet_beginning packet_end packet_line
line_of_parts seen channel first place h octets = simp append_assoc
