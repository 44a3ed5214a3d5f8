-- A label kind of one byte whose raising does nothing: the laws of a label kind say nothing of raising. Assumes nothing.
use Rattle.std.proofs.Common.{ap, eqb-true, eq-eqb, lit≤}
use Rattle.std.specs.Prelude.{ℕ, ◌%◌, ◌^◌, [], ◌∷◌, ◌==◌, bit_xor, slice_index, refl}
use Rattle.std.specs.Int.Bits.{xor_assoc, xor_zero_r, xor_self}
use Rattle.std.proofs.lemmas.Nat.{mod_below, pow_pos, xor_comm}
use Rattle.labels.specs.Kind.{Kind}
use Rattle.labels.specs.Words.{odd, odd_xor}
use Rattle.sessions.specs.declared.flat.Flat.{Flat}

abbrev pub of_byte : ℕ → Flat
of_byte n = record { byte = n }

abbrev pub flat : Kind Flat
flat = record {
  zero = of_byte 0;
  xor = λ x y. of_byte (bit_xor x.byte y.byte);
  colour = λ x. odd x.byte;
  raised = λ x. x;
  same = λ x y. (x.byte == y.byte);
  low = λ m x. x.byte % 2 ^ m;
  width = 1;
  bytes = λ x. x.byte ∷ [];
  from = λ bs. of_byte (slice_index bs 0);
  assoc = λ x y z. ap of_byte (xor_assoc x.byte y.byte z.byte);
  comm = λ x y. ap of_byte (xor_comm x.byte y.byte);
  right = λ x. ap of_byte (xor_zero_r x.byte);
  self = λ x. ap of_byte (xor_self x.byte);
  colours = λ x y. odd_xor x.byte y.byte;
  same_only = λ x y e. ap of_byte (eqb-true x.byte y.byte e);
  same_self = λ x. eq-eqb x.byte x.byte refl;
  low_below = λ m x _. mod_below x.byte (2 ^ m) (pow_pos m);
  width_least = lit≤ tt;
  width_most = lit≤ tt;
  bytes_long = λ x. refl;
  back = λ x. refl;
}
