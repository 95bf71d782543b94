-- How many pieces of a log are read.
use Rattle.std.proofs.Common.{◌≡◌, ℕ, ◌+◌, ◌-◌, ◌*◌, ◌/◌, ◌<◌, ◌≤◌, length, refl, sym, ◌∙◌, subst, inl, inr, arith, true}
use Rattle.std.specs.Prelude.{◌⊎◌, min, IsTrue}
use Rattle.std.proofs.lemmas.Bool.{cases_lt}
use Rattle.std.proofs.lemmas.Bool.Decides.{nat_tests}
use Rattle.lsvd_base.specs.declared.geometry.Geometry.{Geometry}
use Rattle.log_record.specs.declared.head.Head.{Head}
use Rattle.log_record.specs.declared.head.Head.TheVariants as heads
use Rattle.log_record.specs.declared.head.Place.{Place}
use Rattle.log_record.specs.Grammar.{fits}
use Rattle.commit_slot.specs.Commits.{CommitsState}
use Rattle.commit_slot.specs.OnDisk.{AreOnDisk}
use Rattle.cache_log.specs.declared.reading_ahead.ReadAhead.{ReadAhead}
use Rattle.cache_log.specs.Rows.{byte_of}
use Rattle.cache_log.specs.Reads.{AreReadOnly}
use Rattle.cache_log.specs.Opening.{after_pad}
use Rattle.cache_log.specs.Pieces.{HasPiece, GoesAhead}
use Rattle.cache_log.specs.Paid.{StandsAfter, Once, IsPaid, Pays}
use Rattle.cache_log.specs.Invariant.{IsFurther}
use Rattle.cache_log.proofs.ReadCounts.{read_none, only_then}

-- no piece so far
pub paid_first : (log tail total : ℕ) (ahead : ReadAhead) → tail < log → ahead.len ≡ 0
    → length ahead.buffer.items ≡ 512 * min total 2048 → IsPaid log tail total 0 0 ahead
paid_first log tail total ahead inside none room = record {
  begin = 0;
  from = tail;
  sectors = 0;
  begins = omega arith;
  further = inl (omega arith);
  inside = omega (arith, inside);
  within = omega arith;
  at = inl refl;
  len = omega (arith, none);
  room = room;
  at_end = 0;
  at_head = 0;
  once_at_end = inl refl;
  once_at_head = inl refl;
  most = omega arith;
}

-- further on
pub paid_further : (log tail total so_far later count : ℕ) (ahead : ReadAhead) → so_far ≤ later
    → IsPaid log tail total so_far count ahead → IsPaid log tail total later count ahead
paid_further log tail total so_far later count ahead less paid = record {
  begin = paid.begin;
  begins = (let b = paid.begins in omega (arith, b, less));
  from = paid.from;
  sectors = paid.sectors;
  further = paid.further;
  inside = paid.inside;
  within = paid.within;
  at = paid.at;
  len = paid.len;
  room = paid.room;
  at_end = paid.at_end;
  at_head = paid.at_head;
  once_at_end = paid.once_at_end;
  once_at_head = paid.once_at_head;
  most = paid.most;
}

-- ---- what the last piece has

-- two places of a log of which the second is fewer sectors further on than there are to the log's end
same_lap : (log tail begin so_far from to sectors : ℕ) → to < log → from + sectors ≤ log → begin ≤ so_far
    → so_far < begin + sectors → IsFurther log tail begin from → IsFurther log tail so_far to → to ≡ from + (so_far - begin)
same_lap log tail begin so_far from to sectors small inside begins less (inl a) (inl b) = omega (arith, begins, a, b)
same_lap log tail begin so_far from to sectors small inside begins less (inl a) (inr b) =
    absurd (omega (arith, small, inside, begins, less, a, b))
same_lap log tail begin so_far from to sectors small inside begins less (inr a) (inl b) =
    absurd (omega (arith, small, inside, begins, less, a, b))
same_lap log tail begin so_far from to sectors small inside begins less (inr a) (inr b) = omega (arith, begins, a, b)

piece_has : (ahead : ReadAhead) (from sectors further to : ℕ) → (sectors ≡ 0) ⊎ (ahead.at ≡ byte_of from)
    → ahead.len ≡ 512 * sectors → to ≡ from + further → further < sectors → HasPiece ahead (byte_of to) 512
piece_has ahead from sectors further to (inl none) len is less = absurd (omega (arith, none, less))
piece_has ahead from sectors further to (inr at) len is less = record {
  begins = omega (arith, at, is);
  ends = omega (arith, at, len, is, less);
}

-- a header that the last piece has not stands past it
pub past_piece : (log tail total so_far count : ℕ) (place : Place) (ahead : ReadAhead)
    → StandsAfter log tail total so_far place → (paid : IsPaid log tail total so_far count ahead)
    → ¬ HasPiece ahead (byte_of place.position) 512 → paid.begin + paid.sectors ≤ so_far
past_piece log tail total so_far count place ahead stands paid none =
    elim (cases_lt so_far (paid.begin + paid.sectors)) [
      | inl less ↦
          let b = paid.begins in
          let is = same_lap log tail paid.begin so_far paid.from place.position paid.sectors stands.inside paid.inside b less
          paid.further stands.further in
          absurd (none (piece_has ahead paid.from paid.sectors (so_far - paid.begin) place.position paid.at paid.len is
          (omega (arith, b, less))))
      | inr most ↦ most
    ]

-- ---- one piece more

once_more : (times : ℕ) (P Q : Type 0) → (P → Q) → Once times P → Once times Q
once_more times P Q so (inl none) = inl none
once_more times P Q so (inr one) = inr (one.0, so one.1)

-- a piece that is not whole ends at the log's end or at the head, and none did so before
record IsCut (log tail total so_far sectors count : ℕ) : Type 0 where
  at_end : ℕ
  at_head : ℕ
  once_at_end : Once at_end (log - tail ≤ so_far + sectors)
  once_at_head : Once at_head (total ≤ so_far + sectors)
  most : 2048 * count ≤ so_far + sectors + 2048 * (at_end + at_head)

cut_at_head : (log tail total so_far sectors count before at_end at_head : ℕ) → before ≤ so_far → so_far < total
    → total ≤ so_far + sectors → 2048 * count ≤ before + 2048 * (at_end + at_head)
    → Once at_end (log - tail ≤ before) → Once at_head (total ≤ before) → IsCut log tail total so_far sectors (count + 1)
cut_at_head log tail total so_far sectors count before at_end at_head past more ends most end (inl none) = record {
  at_end = at_end;
  at_head = 1;
  once_at_end = once_more at_end _ _ (λ e. omega (arith, e, past)) end;
  once_at_head = inr (refl, ends);
  most = omega (arith, none, most, past);
}
cut_at_head log tail total so_far sectors count before at_end at_head past more ends most end (inr one) =
    (let e = one.1 in absurd (omega (arith, e, past, more)))

cut_at_end : (log tail total so_far sectors count before at_end at_head position : ℕ) → before ≤ so_far → tail < log
    → total ≤ log → so_far + sectors < total → sectors ≡ log - position → position < log → IsFurther log tail so_far position
    → 2048 * count ≤ before + 2048 * (at_end + at_head) → Once at_end (log - tail ≤ before) → Once at_head (total ≤ before)
    → IsCut log tail total so_far sectors (count + 1)
cut_at_end log tail total so_far sectors count before at_end at_head position past inside most short is small (inl here) few
    (inl none) head = record {
      at_end = 1;
      at_head = at_head;
      once_at_end = inr (refl, omega (arith, is, here, small));
      once_at_head = once_more at_head _ _ (λ e. omega (arith, e, past)) head;
      most = omega (arith, none, few, past);
    }
cut_at_end log tail total so_far sectors count before at_end at_head position past inside most short is small (inl here) few
    (inr one) head = (let e = one.1 in absurd (omega (arith, e, past, here, small)))
cut_at_end log tail total so_far sectors count before at_end at_head position past inside most short is small (inr round) few end
    head = absurd (omega (arith, inside, most, short, is, small, round))

next_cut : (log tail total so_far sectors count before at_end at_head : ℕ) (place : Place)
    → StandsAfter log tail total so_far place → 1 ≤ place.to_head → before ≤ so_far
    → sectors ≡ min (min log (place.position + place.to_head) - place.position) (min total 2048)
    → 2048 * count ≤ before + 2048 * (at_end + at_head) → Once at_end (log - tail ≤ before) → Once at_head (total ≤ before)
    → IsCut log tail total so_far sectors (count + 1)
next_cut log tail total so_far sectors count before at_end at_head place stands some past is few end head =
    let s = stands.sum in
    let i = stands.inside in
    elim (cases_lt sectors 2048) [
      | inl short ↦ elim (cases_lt sectors place.to_head) [
        | inl less ↦ cut_at_end log tail total so_far sectors count before at_end at_head place.position past stands.tail_inside
            stands.most (omega (arith, s, less)) (omega (arith, s, i, is, short, less)) i stands.further few end head
        | inr whole ↦ cut_at_head log tail total so_far sectors count before at_end at_head past (omega (arith, s, some))
            (omega (arith, s, whole)) few end head
      ]
      | inr long ↦ record {
        at_end = at_end;
        at_head = at_head;
        once_at_end = once_more at_end _ _ (λ e. omega (arith, e, past)) end;
        once_at_head = once_more at_head _ _ (λ e. omega (arith, e, past)) head;
        most = omega (arith, few, past, long);
      }
    ]

paid_more : (log tail total so_far count end : ℕ) (place : Place) (old new : ReadAhead)
    → StandsAfter log tail total so_far place → 1 ≤ place.to_head → end ≡ min log (place.position + place.to_head)
    → IsPaid log tail total so_far count old → ¬ HasPiece old (byte_of place.position) 512
    → new.at ≡ byte_of place.position → new.len ≡ min (byte_of end - byte_of place.position) (length old.buffer.items)
    → length new.buffer.items ≡ length old.buffer.items → IsPaid log tail total so_far (count + 1) new
paid_more log tail total so_far count end place old new stands some end_is paid none at len room =
    let sectors : ℕ = min (min log (place.position + place.to_head) - place.position) (min total 2048) in
    let past = past_piece log tail total so_far count place old stands paid none in
    let cut = next_cut log tail total so_far sectors count (paid.begin + paid.sectors) paid.at_end paid.at_head place stands some
    past refl paid.most paid.once_at_end paid.once_at_head in
    let r = paid.room in
    let s = stands.sum in
    let i = stands.inside in
    record {
      begin = so_far;
      from = place.position;
      sectors = sectors;
      begins = omega arith;
      further = stands.further;
      inside = omega (arith, i);
      within = omega (arith, s);
      at = inr at;
      len = omega (arith, len, r, end_is, i);
      room = room ∙ r;
      at_end = cut.at_end;
      at_head = cut.at_head;
      once_at_end = cut.once_at_end;
      once_at_head = cut.once_at_head;
      most = cut.most;
    }

-- a header was read at a place
pub paid_header : (log end : ℕ) (place : Place) (ahead after : ReadAhead) (old new : CommitsState) → 1 ≤ place.to_head
    → end ≡ min log (place.position + place.to_head) → AreOnDisk old
    → (512 ≤ length ahead.buffer.items → GoesAhead (byte_of place.position) 512 (byte_of end) ahead after)
    → (512 ≤ length ahead.buffer.items → HasPiece ahead (byte_of place.position) 512 → new ≡ old)
    → AreReadOnly 1 true old new → Pays log place 0 ahead after old new
paid_header log end place ahead after old new some end_is on_disk goes spared one tail total so_far count stands paid =
    let r = paid.room in
    let s = stands.sum in
    let room : 512 ≤ length ahead.buffer.items = omega (arith, r, s, some) in
    by_piece (goes room)
  where
    by_piece : GoesAhead (byte_of place.position) 512 (byte_of end) ahead after
        → (more : ℕ) × AreReadOnly more true old new × IsPaid log tail total (so_far + 0) (count + more) after
    by_piece (inl same) =
        let r = paid.room in
        let s = stands.sum in
        let room : 512 ≤ length ahead.buffer.items = omega (arith, r, s, some) in
        let none : AreReadOnly 0 true old new = subst (AreReadOnly 0 true old) (sym (spared room same.0))
        (read_none 0 old on_disk) in
        let zero : count ≡ count + 0 = omega arith in (
          0,
          none,
          subst (λ n. IsPaid log tail total (so_far + 0) n after) zero
              (subst (IsPaid log tail total (so_far + 0) count) (sym same.1)
              (paid_further log tail total so_far (so_far + 0) count ahead (omega arith) paid)),
        )
    by_piece (inr new_piece) = (
      1,
      one,
      paid_further log tail total so_far (so_far + 0) (count + 1) after (omega arith)
          (paid_more log tail total so_far count end place ahead after stands some end_is paid new_piece.0 new_piece.1
          new_piece.2 new_piece.3),
    )

-- a header that fits has a sector before the head
pub some_to_head : (geometry : Geometry) (place : Place) (head : Head) → IsTrue (fits geometry place head) → 1 ≤ place.to_head
some_to_head geometry place (heads.Write lba n) fit =
    (let w : 1 + n ≤ place.to_head = grind (arith, nat_tests) in omega (arith, w))
some_to_head geometry place (heads.Zero lba n) fit = (let w : 1 ≤ place.to_head = grind (arith, nat_tests) in w)
some_to_head geometry place (heads.Pad n) fit = (let w : 1 + n ≤ place.to_head = grind (arith, nat_tests) in omega (arith, w))

-- ---- one header or two, and further

pub pays_further : (log taken more : ℕ) (place : Place) (ahead after : ReadAhead) (old new : CommitsState) → taken ≤ more
    → Pays log place taken ahead after old new → Pays log place more ahead after old new
pays_further log taken more place ahead after old new less pays tail total so_far count stands paid =
    let is = pays tail total so_far count stands paid in
    (is.0, is.1, paid_further log tail total (so_far + taken) (so_far + more) (count + is.0) after (omega (arith, less)) is.2)

-- the place after a pad
after_stands : (log tail total so_far : ℕ) (place : Place) → log - place.position ≤ place.to_head
    → StandsAfter log tail total so_far place → StandsAfter log tail total (so_far + (log - place.position)) (after_pad log place)
after_stands log tail total so_far place part stands =
    let s = stands.sum in
    let i = stands.inside in
    record {
      tail_inside = stands.tail_inside;
      most = stands.most;
      sum = omega (arith, s, part);
      inside = omega (arith, i);
      further = round stands.further;
    }
  where
    round : IsFurther log tail so_far place.position → IsFurther log tail (so_far + (log - place.position)) 0
    round (inl here) = (let i = stands.inside in inr (omega (arith, here, i)))
    round (inr again) =
        let i = stands.inside in
        let s = stands.sum in
        let m = stands.most in
        let t = stands.tail_inside in
        absurd (omega (arith, again, i, s, m, t, part))

pub pays_both : (log taken : ℕ) (place : Place) (ahead middle after : ReadAhead) (old between new : CommitsState)
    → log - place.position ≤ place.to_head → log - place.position ≤ taken → Pays log place 0 ahead middle old between
    → Pays log (after_pad log place) 0 middle after between new → Pays log place taken ahead after old new
pays_both log taken place ahead middle after old between new part less first second tail total so_far count stands paid =
    let one = first tail total so_far count stands paid in
    let moved = paid_further log tail total (so_far + 0) (so_far + (log - place.position)) (count + one.0) middle
    (omega arith) one.2 in
    let two = second tail total (so_far + (log - place.position)) (count + one.0) (after_stands log tail total so_far place part
    stands) moved in
    let sum : count + one.0 + two.0 ≡ count + (one.0 + two.0) = omega arith in (
      one.0 + two.0,
      only_then one.0 two.0 (one.0 + two.0) true old between new one.1 two.1 (omega arith),
      subst (λ n. IsPaid log tail total (so_far + taken) n after) sum
          (paid_further log tail total (so_far + (log - place.position) + 0) (so_far + taken) (count + one.0 + two.0) after
          (omega (arith, less)) two.2),
    )

-- so few pieces were read
pub paid_few : (log tail total so_far count : ℕ) (ahead : ReadAhead) → IsPaid log tail total so_far count ahead
    → count ≤ total / 2048 + 2
paid_few log tail total so_far count ahead paid =
    let m = paid.most in
    let w = paid.within in
    let e = at_most_once paid.at_end _ paid.once_at_end in
    let h = at_most_once paid.at_head _ paid.once_at_head in
    omega (arith, m, w, e, h)
  where
    at_most_once : (times : ℕ) (P : Type 0) → Once times P → times ≤ 1
    at_most_once times P (inl none) = omega (arith, none)
    at_most_once times P (inr one) = (let o = one.0 in omega (arith, o))
