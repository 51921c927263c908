use Rattle.std.proofs.Common.{◌≡◌, ◌≤◌, length, take}
use Rattle.pdus.specs.Nsap.Text.{without_dots}
use Rattle.pdus.proofs.nsap.text.collect_digits.Given as goal

abbrev pub invariant-loop-c : goal.invariant-loop-c
invariant-loop-c l = record {
  fits : l.count ≤ 40;
  wide : length l.digits ≡ 40;
  so_far : take l.count l.digits ≡ without_dots (take l.c-index l.text);
}
