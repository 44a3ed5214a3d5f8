-- The compression of one block (FIPS 180-4, 6.2.2, steps 2 to 4). Assumes nothing.
use Rattle.std.specs.Prelude.{ℕ, zero, suc, List, slice_index}
use Rattle.sha256.specs.declared.state.State.{State}
use Rattle.sha256.specs.Words.{add}
use Rattle.sha256.specs.Functions.{Ch, Maj, Σ0, Σ1}
use Rattle.sha256.specs.Constants.{constants}
use Rattle.sha256.specs.Schedule.{schedule}

abbrev pub T1 : State → ℕ → ℕ → ℕ
T1 s k w = add (add (add (add s.h (Σ1 s.e)) (Ch s.e s.f s.g)) k) w

abbrev pub T2 : State → ℕ
T2 s = add (Σ0 s.a) (Maj s.a s.b s.c)

abbrev pub round : State → ℕ → ℕ → State
round s k w = record {
  a = add (T1 s k w) (T2 s);
  b = s.a;
  c = s.b;
  d = s.c;
  e = add s.d (T1 s k w);
  f = s.e;
  g = s.f;
  h = s.g;
}

-- the working variables after t rounds
unfoldable pub after : State → List ℕ → ℕ → State
after s ws zero = s
after s ws (suc t) = round (after s ws t) (slice_index constants t) (slice_index ws t)

abbrev pub sum : State → State → State
sum s t = record {
  a = add s.a t.a;
  b = add s.b t.b;
  c = add s.c t.c;
  d = add s.d t.d;
  e = add s.e t.e;
  f = add s.f t.f;
  g = add s.g t.g;
  h = add s.h t.h;
}

-- the hash value after a block of 64 bytes
abbrev pub compressed : State → List ℕ → State
compressed s block = sum (after s (schedule block) 64) s
