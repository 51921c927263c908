-- A header as its nine octets and what follows them, with a checksum and without: as other PDUs have it.
pub use Rattle.pdus.proofs.PduHeader.Shape.{nine_bare, laid_out, same_layout, sealing_again, bare_again, sealed_layout, sealed_is, pair_is_zero, pair_is_used, pair_again, pair_of_octets, right_from_test, unused_passes, sealed_passes, HasHeader, good_size, length_of_header, octet_of_header}
