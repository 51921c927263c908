-- The octets that stand for the reasons for discard (ISO/IEC 8473, section 7.9.5).
use Rattle.std.specs.Prelude.{ℕ}
use Rattle.pdus.specs.declared.clnp_options.reasons.Reason.{Reason}
use Rattle.pdus.specs.declared.clnp_options.reasons.Reason.TheVariants.{NotSpecified, ProtocolProcedureError, IncorrectChecksum, Congestion, HeaderSyntaxError, SegmentationNotPermitted, IncompletePdu, DuplicateOption, DestinationUnreachable, DestinationUnknown, SourceRoutingError, SourceRoutingSyntaxError, UnknownAddressInRoute, PathNotAcceptable, LifetimeExpiredInTransit, LifetimeExpiredInReassembly, UnsupportedOption, UnsupportedVersion, UnsupportedSecurity, UnsupportedSourceRouting, UnsupportedRecording, ReassemblyInterference}

abbrev pub reason_code : Reason → ℕ
reason_code NotSpecified = 0x00
reason_code ProtocolProcedureError = 0x01
reason_code IncorrectChecksum = 0x02
reason_code Congestion = 0x03
reason_code HeaderSyntaxError = 0x04
reason_code SegmentationNotPermitted = 0x05
reason_code IncompletePdu = 0x06
reason_code DuplicateOption = 0x07
reason_code DestinationUnreachable = 0x80
reason_code DestinationUnknown = 0x81
reason_code SourceRoutingError = 0x90
reason_code SourceRoutingSyntaxError = 0x91
reason_code UnknownAddressInRoute = 0x92
reason_code PathNotAcceptable = 0x93
reason_code LifetimeExpiredInTransit = 0xa0
reason_code LifetimeExpiredInReassembly = 0xa1
reason_code UnsupportedOption = 0xb0
reason_code UnsupportedVersion = 0xb1
reason_code UnsupportedSecurity = 0xb2
reason_code UnsupportedSourceRouting = 0xb3
reason_code UnsupportedRecording = 0xb4
reason_code ReassemblyInterference = 0xc0
