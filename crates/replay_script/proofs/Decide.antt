-- Which command a line spells is decided, and it is one.
use Rattle.std.proofs.Common.{◌≡◌, ℕ, ◌+◌, ◌*◌, ◌^◌, ◌<◌, ◌==◌, ◌⊎◌, inl, inr, Option, Bool, true, false, cond, List, [], ◌∷◌}
use Rattle.std.proofs.Common.{length, take, codes, refl, sym, ◌∙◌, ap, subst, arith}
use Rattle.std.specs.Prelude.{IsTrue, nat_le, decimal, ◌&&◌}
use Rattle.std.specs.Bool.{then_some}
use Rattle.std.specs.Option.{IfNone}
use Rattle.std.specs.Str.{bytes_eq}
use Rattle.std.proofs.lemmas.Bool.Decides.{nat_tests, Decides-eqb}
use Rattle.std.proofs.lemmas.Fmt.{decimal_injective}
use Rattle.std.proofs.lemmas.List.Splits.{length-slice_split}
use Rattle.std.proofs.lemmas.Slice.Eq.{bytes_eq-Decides}
use Rattle.lsvd_base.specs.Limits.{is_within_limits}
use Rattle.lsvd_base.specs.declared.geometry.Geometry.{Geometry}
use Rattle.replay_script.specs.Grammar.{SpellsCommand, command_spelling, Fits, SizesFit, words_of, command_name, BeginAs}
use Rattle.replay_script.specs.Grammar.{BeginsAs, CountsAs}
use Rattle.replay_script.specs.Grammar.{IsUnknown, HasWrongWordCount, IsMisspelt, Spell, SpellNone, AreRefusedAs}
use Rattle.replay_script.specs.declared.command.Command.{Command}
use Rattle.replay_script.specs.declared.command.Command.TheVariants.{New, Write, Zero, Read, Flush, Seal, TakeJob, JobDone}
use Rattle.replay_script.specs.declared.command.Command.TheVariants.{JobFailed, SealCheckpoint, Remove, PlanCopy, SealCopy}
use Rattle.replay_script.specs.declared.command.Command.TheVariants.{DropPlan, Status, Stop}
use Rattle.replay_script.specs.declared.command.Command.TheVariants.{CrashKeep, CrashLost}
use Rattle.replay_script.specs.declared.error.LineError.TheVariants.{UnknownCommand, WordCount, Form}
use Rattle.replay_script.proofs.Numbers.{decided, decide_number, decide_byte, hexadecimal_injective}

-- the limits of a volume keep each size below 2^64
within_limits_parts : (s m b l : ℕ) → (nat_le 8 s && nat_le s (2 ^ 31) && nat_le 8 m && nat_le m 65536 && nat_le 1 b
    && nat_le b 65536 && nat_le (2 * (m + 1)) l && nat_le l (2 ^ 31)) ≡ true → (s < 2 ^ 64) × (l < 2 ^ 64) × (m < 2 ^ 64)
    × (b < 2 ^ 64)
within_limits_parts s m b l e = (
  grind (arith, nat_tests),
  grind (arith, nat_tests),
  grind (arith, nat_tests),
  grind
      (arith, nat_tests),
)

pub geometry_fits : (g : Geometry) → IsTrue (is_within_limits g) → SizesFit g
geometry_fits g fits = within_limits_parts g.sectors g.max_write g.batch g.log fits

-- geometries with the same sizes are one
same_fields : (s s' m m' b b' l l' : ℕ) → s ≡ s' → m ≡ m' → b ≡ b' → l ≡ l'
    → ◌≡◌ {A = Geometry} (record { sectors = s; max_write = m; batch = b; log = l })
    (record { sectors = s'; max_write = m'; batch = b'; log = l' })
same_fields s s' m m' b b' l l' e1 e2 e3 e4 = cc

-- two geometries that are spelled alike are one
pub same_geometry : (g h : Geometry) → command_spelling (New g) ≡ command_spelling (New h) → SizesFit g → Fits (New h) → g ≡ h
same_geometry g h e fits_g fits =
    let fits_h = geometry_fits h fits in
    let sectors = decimal_injective g.sectors h.sectors fits_g.0 fits_h.0 (cc) in
    let log = decimal_injective g.log h.log fits_g.1 fits_h.1 (cc) in
    let max_write = decimal_injective g.max_write h.max_write fits_g.2 fits_h.2 (cc) in
    let batch = decimal_injective g.batch h.batch fits_g.3 fits_h.3 (cc) in
    same_fields g.sectors h.sectors g.max_write h.max_write g.batch h.batch g.log h.log sectors max_write batch log

-- where the numbers make no geometry within the limits, the words spell no command `new`
pub no_new_outside : (words : List (List ℕ)) (g : Geometry) → words ≡ command_spelling (New g) → SizesFit g
    → (IsTrue (is_within_limits g) → ⊥) → (h : Geometry) → words ≡ command_spelling (New h) → Fits (New h) → ⊥
no_new_outside words g e fits outside h e' fits_h =
    let same = same_geometry g h (sym e ∙ e') fits fits_h in
    outside (subst (λ (x : Geometry). IsTrue (is_within_limits x)) (sym same) fits_h)

-- the first byte of the first word
first_byte : List (List ℕ) → ℕ
first_byte ((byte ∷ bytes) ∷ words) = byte
first_byte _ = 0

-- a number for the words of each command, from the bytes of its name
kind_by : List (List ℕ) → ℕ
kind_by ((byte ∷ next ∷ bytes) ∷ words) = cond (byte == 99) (256 + first_byte words) (128 + byte)
kind_by words = first_byte words

-- words spell one command
pub one_spelling : (a b : Command) → command_spelling a ≡ command_spelling b → Fits a → Fits b → a ≡ b
unfolding first_byte kind_by
one_spelling (New g) (New h) e fits_g fits_h = ap New (same_geometry g h e (geometry_fits g fits_g) fits_h)
one_spelling (Write lba sectors byte) (Write lba' sectors' byte') e fits_a fits_b =
    let same_lba = decimal_injective lba lba' fits_a.0 fits_b.0 (cc) in
    let same_sectors = decimal_injective sectors sectors' fits_a.1 fits_b.1 (cc) in
    let same_byte = hexadecimal_injective byte byte' fits_a.2 fits_b.2 (cc) in
    cc
one_spelling (Zero lba sectors) (Zero lba' sectors') e fits_a fits_b =
    let same_lba = decimal_injective lba lba' fits_a.0 fits_b.0 (cc) in
    let same_sectors = decimal_injective sectors sectors' fits_a.1 fits_b.1 (cc) in
    cc
one_spelling (Read lba sectors) (Read lba' sectors') e fits_a fits_b =
    let same_lba = decimal_injective lba lba' fits_a.0 fits_b.0 (cc) in
    let same_sectors = decimal_injective sectors sectors' fits_a.1 fits_b.1 (cc) in
    cc
one_spelling Flush Flush e fits_a fits_b = refl
one_spelling Seal Seal e fits_a fits_b = refl
one_spelling TakeJob TakeJob e fits_a fits_b = refl
one_spelling (JobDone number) (JobDone number') e fits_a fits_b = ap JobDone (decimal_injective number number' fits_a fits_b (cc))
one_spelling (JobFailed number) (JobFailed number') e fits_a fits_b =
    ap JobFailed (decimal_injective number number' fits_a fits_b (cc))
one_spelling SealCheckpoint SealCheckpoint e fits_a fits_b = refl
one_spelling Remove Remove e fits_a fits_b = refl
one_spelling PlanCopy PlanCopy e fits_a fits_b = refl
one_spelling SealCopy SealCopy e fits_a fits_b = refl
one_spelling DropPlan DropPlan e fits_a fits_b = refl
one_spelling Status Status e fits_a fits_b = refl
one_spelling (Stop calls) (Stop calls') e fits_a fits_b = ap Stop (decimal_injective calls calls' fits_a fits_b (cc))
one_spelling (CrashKeep device objects) (CrashKeep device' objects') e fits_a fits_b = cc
one_spelling (CrashLost device objects) (CrashLost device' objects') e fits_a fits_b = cc
one_spelling a b e fits_a fits_b = let kinds : kind_by (command_spelling a) ≡ kind_by (command_spelling b) = ap kind_by e in
    absurd (omega (arith, kinds))

-- a line spells one command
pub one_command : (line : List ℕ) (a b : Command) → SpellsCommand line a → SpellsCommand line b → a ≡ b
one_command line a b spells_a spells_b = one_spelling a b (sym spells_a.words ∙ spells_b.words) spells_a.fits spells_b.fits

-- ---- which command words spell

-- words spell some command
abbrev IsSpelled : List (List ℕ) → Type 0
IsSpelled words = (command : Command) × Spell words command

-- whether words of these sizes spell the command `new` is decided
decide_limits : (words : List (List ℕ)) (g : Geometry) → words ≡ command_spelling (New g) → SizesFit g
    → IsSpelled words ⊎ ((h : Geometry) → ¬ Spell words (New h))
decide_limits words g e fits =
    elim (decided (is_within_limits g) ((λ t. t), (λ t. t))) [
      | inl inside ↦ inl (New g, (e, inside))
      | inr outside ↦ inr (λ h spell. no_new_outside words g e fits outside h spell.0 spell.1)
    ]

-- whether words spell the command `new` is decided
decide_new : (words : List (List ℕ)) → IsSpelled words ⊎ ((g : Geometry) → ¬ Spell words (New g))
decide_new (name ∷ a ∷ b ∷ c ∷ d ∷ []) =
    elim (decided (bytes_eq name (codes "new")) (bytes_eq-Decides name (codes "new"))) [
      | inr other ↦ inr (λ g (e, fits). other (cc))
      | inl is_new ↦
          elim (decide_number a) [
            | inr other ↦ inr (λ g (e, fits). other g.sectors (geometry_fits g fits).0 (cc))
            | inl sectors ↦
                elim (decide_number b) [
                  | inr other ↦ inr (λ g (e, fits). other g.log (geometry_fits g fits).1 (cc))
                  | inl log ↦
                      elim (decide_number c) [
                        | inr other ↦ inr (λ g (e, fits). other g.max_write (geometry_fits g fits).2 (cc))
                        | inl max_write ↦
                            elim (decide_number d) [
                              | inr other ↦ inr (λ g (e, fits). other g.batch (geometry_fits g fits).3 (cc))
                              | inl batch ↦
                                  let g : Geometry = record {
                                    sectors = sectors.0;
                                    log = log.0;
                                    max_write = max_write.0;
                                    batch =
                                        batch.0;
                                  } in
                                  let e : name ∷ a ∷ b ∷ c ∷ d ∷ [] ≡ command_spelling (New g) =
                                  cc (is_new, sectors.2, log.2, max_write.2, batch.2) in
                                  decide_limits _ g e (sectors.1, log.1, max_write.1, batch.1)
                            ]
                      ]
                ]
          ]
    ]
decide_new _ = inr (λ g (e, fits). omega (arith, ap length e))

-- whether words spell the command `w` is decided
decide_write : (words : List (List ℕ)) → IsSpelled words ⊎ ((lba sectors byte : ℕ) → ¬ Spell words (Write lba sectors byte))
decide_write (name ∷ a ∷ b ∷ c ∷ []) =
    elim (decided (bytes_eq name (codes "w")) (bytes_eq-Decides name (codes "w"))) [
      | inr other ↦ inr (λ lba sectors byte (e, fits). other (cc))
      | inl is_write ↦
          elim (decide_number a) [
            | inr other ↦ inr (λ lba sectors byte (e, fits). other lba fits.0 (cc))
            | inl lba ↦
                elim (decide_number b) [
                  | inr other ↦ inr (λ lba sectors byte (e, fits). other sectors fits.1 (cc))
                  | inl sectors ↦
                      elim (decide_byte c) [
                        | inr other ↦ inr (λ lba sectors byte (e, fits). other byte fits.2 (cc))
                        | inl byte ↦ inl (
                          Write lba.0 sectors.0
                              byte.0,
                          (cc (is_write, lba.2, sectors.2, byte.2), (lba.1, sectors.1, byte.1)),
                        )
                      ]
                ]
          ]
    ]
decide_write _ = inr (λ lba sectors byte (e, fits). omega (arith, ap length e))

-- whether words are this name alone is decided
decide_alone : (name : List ℕ) (words : List (List ℕ)) → (words ≡ name ∷ []) ⊎ ¬ (words ≡ name ∷ [])
decide_alone name (word ∷ []) =
    elim (decided (bytes_eq word name) (bytes_eq-Decides word name)) [
      | inr other ↦ inr (λ e. other (cc))
      | inl same ↦ inl (cc (same))
    ]
decide_alone name _ = inr (λ e. omega (arith, ap length e))

-- words are this name and a number
abbrev AreWithNumber : List ℕ → List (List ℕ) → ℕ → Type 0
AreWithNumber name words n = (words ≡ name ∷ decimal n ∷ []) × (n < 2 ^ 64)

-- whether words are that is decided
decide_with_number : (name : List ℕ) (words : List (List ℕ)) → ((n : ℕ) × AreWithNumber name words n)
    ⊎ ((n : ℕ) → ¬ AreWithNumber name words n)
decide_with_number name (word ∷ a ∷ []) =
    elim (decided (bytes_eq word name) (bytes_eq-Decides word name)) [
      | inr other ↦ inr (λ n (e, fits). other (cc))
      | inl same ↦
          elim (decide_number a) [
            | inr other ↦ inr (λ n (e, fits). other n fits (cc))
            | inl n ↦ inl (n.0, (cc (same, n.2), n.1))
          ]
    ]
decide_with_number name _ = inr (λ n (e, fits). omega (arith, ap length e))

-- words are this name and two numbers
abbrev AreWithNumbers : List ℕ → List (List ℕ) → (lba sectors : ℕ) → Type 0
AreWithNumbers name words lba sectors = (words ≡ name ∷ decimal lba ∷ decimal sectors ∷ [])
    × ((lba < 2 ^ 64) × (sectors < 2 ^ 64))

-- whether words are that is decided
decide_with_numbers : (name : List ℕ) (words : List (List ℕ))
    → ((lba : ℕ) × (sectors : ℕ) × AreWithNumbers name words lba sectors)
    ⊎ ((lba sectors : ℕ) → ¬ AreWithNumbers name words lba sectors)
decide_with_numbers name (word ∷ a ∷ b ∷ []) =
    elim (decided (bytes_eq word name) (bytes_eq-Decides word name)) [
      | inr other ↦ inr (λ lba sectors (e, fits). other (cc))
      | inl same ↦
          elim (decide_number a) [
            | inr other ↦ inr (λ lba sectors (e, fits). other lba fits.0 (cc))
            | inl lba ↦
                elim (decide_number b) [
                  | inr other ↦ inr (λ lba sectors (e, fits). other sectors fits.1 (cc))
                  | inl sectors ↦ inl (lba.0, sectors.0, (cc (same, lba.2, sectors.2), (lba.1, sectors.1)))
                ]
          ]
    ]
decide_with_numbers name _ = inr (λ lba sectors (e, fits). omega (arith, ap length e))

-- words are `crash`, this word and two words of letters
abbrev AreCrash : List ℕ → List (List ℕ) → (device objects : List ℕ) → Type 0
AreCrash kind words device objects = words ≡ codes "crash" ∷ kind ∷ device ∷ objects ∷ []

-- whether words are that is decided
decide_crash : (kind : List ℕ) (words : List (List ℕ))
    → ((device : List ℕ) × (objects : List ℕ) × AreCrash kind words device objects)
    ⊎ ((device objects : List ℕ) → ¬ AreCrash kind words device objects)
decide_crash kind (name ∷ word ∷ device ∷ objects ∷ []) =
    elim (decided (bytes_eq name (codes "crash")) (bytes_eq-Decides name (codes "crash"))) [
      | inr other ↦ inr (λ d o e. other (cc))
      | inl is_crash ↦
          elim (decided (bytes_eq word kind) (bytes_eq-Decides word kind)) [
            | inr other ↦ inr (λ d o e. other (cc))
            | inl same ↦ inl (device, objects, cc (is_crash, same))
          ]
    ]
decide_crash kind _ = inr (λ d o e. omega (arith, ap length e))

-- a decision, and where it is none, the next one
or_next : {A B C : Type 0} → A ⊎ B → (B → A ⊎ C) → A ⊎ C
or_next (inl a) next = inl a
or_next (inr b) next = next b

-- whether words spell a command of each other kind is decided
decide_flush : (words : List (List ℕ)) → IsSpelled words ⊎ ¬ Spell words Flush
decide_flush words = elim (decide_alone (codes "f") words) [
  | inl e ↦ inl (Flush, (e, tt))
  | inr other ↦ inr (λ spell. other spell.0)
]

decide_seal : (words : List (List ℕ)) → IsSpelled words ⊎ ¬ Spell words Seal
decide_seal words = elim (decide_alone (codes "s") words) [
  | inl e ↦ inl (Seal, (e, tt))
  | inr other ↦ inr (λ spell. other spell.0)
]

decide_take : (words : List (List ℕ)) → IsSpelled words ⊎ ¬ Spell words TakeJob
decide_take words = elim (decide_alone (codes "u") words) [
  | inl e ↦ inl (TakeJob, (e, tt))
  | inr other ↦ inr (λ spell. other spell.0)
]

decide_status : (words : List (List ℕ)) → IsSpelled words ⊎ ¬ Spell words Status
decide_status words = elim (decide_alone (codes "i") words) [
  | inl e ↦ inl (Status, (e, tt))
  | inr other ↦ inr (λ spell. other spell.0)
]

decide_checkpoint : (words : List (List ℕ)) → IsSpelled words ⊎ ¬ Spell words SealCheckpoint
decide_checkpoint words = elim (decide_alone (codes "c") words) [
  | inl e ↦ inl (SealCheckpoint, (e, tt))
  | inr other ↦ inr (λ spell. other spell.0)
]

decide_remove : (words : List (List ℕ)) → IsSpelled words ⊎ ¬ Spell words Remove
decide_remove words = elim (decide_alone (codes "k") words) [
  | inl e ↦ inl (Remove, (e, tt))
  | inr other ↦ inr (λ spell. other spell.0)
]

decide_plan_copy : (words : List (List ℕ)) → IsSpelled words ⊎ ¬ Spell words PlanCopy
decide_plan_copy words = elim (decide_alone (codes "g") words) [
  | inl e ↦ inl (PlanCopy, (e, tt))
  | inr other ↦ inr (λ spell. other spell.0)
]

decide_seal_copy : (words : List (List ℕ)) → IsSpelled words ⊎ ¬ Spell words SealCopy
decide_seal_copy words = elim (decide_alone (codes "G") words) [
  | inl e ↦ inl (SealCopy, (e, tt))
  | inr other ↦ inr (λ spell. other spell.0)
]

decide_drop_plan : (words : List (List ℕ)) → IsSpelled words ⊎ ¬ Spell words DropPlan
decide_drop_plan words = elim (decide_alone (codes "q") words) [
  | inl e ↦ inl (DropPlan, (e, tt))
  | inr other ↦ inr (λ spell. other spell.0)
]

decide_done : (words : List (List ℕ)) → IsSpelled words ⊎ ((number : ℕ) → ¬ Spell words (JobDone number))
decide_done words = elim (decide_with_number (codes "d") words) [
  | inl found ↦ inl (JobDone found.0, found.1)
  | inr other ↦ inr other
]

decide_failed : (words : List (List ℕ)) → IsSpelled words ⊎ ((number : ℕ) → ¬ Spell words (JobFailed number))
decide_failed words = elim (decide_with_number (codes "x") words) [
  | inl found ↦ inl (JobFailed found.0, found.1)
  | inr other ↦ inr other
]

decide_stop : (words : List (List ℕ)) → IsSpelled words ⊎ ((calls : ℕ) → ¬ Spell words (Stop calls))
decide_stop words = elim (decide_with_number (codes "stop") words) [
  | inl found ↦ inl (Stop found.0, found.1)
  | inr other ↦ inr other
]

decide_zero : (words : List (List ℕ)) → IsSpelled words ⊎ ((lba sectors : ℕ) → ¬ Spell words (Zero lba sectors))
decide_zero words = elim (decide_with_numbers (codes "z") words) [
  | inl found ↦ inl (Zero found.0 found.1, found.2)
  | inr other ↦ inr other
]

decide_read : (words : List (List ℕ)) → IsSpelled words ⊎ ((lba sectors : ℕ) → ¬ Spell words (Read lba sectors))
decide_read words = elim (decide_with_numbers (codes "r") words) [
  | inl found ↦ inl (Read found.0 found.1, found.2)
  | inr other ↦ inr other
]

decide_crash_keep : (words : List (List ℕ)) → IsSpelled words
    ⊎ ((device objects : List ℕ) → ¬ Spell words (CrashKeep device objects))
decide_crash_keep words =
    elim (decide_crash (codes "keep") words) [
      | inl found ↦ inl (CrashKeep found.0 found.1, (found.2, tt))
      | inr other ↦ inr (λ device objects spell. other device objects spell.0)
    ]

decide_crash_lost : (words : List (List ℕ)) → IsSpelled words
    ⊎ ((device objects : List ℕ) → ¬ Spell words (CrashLost device objects))
decide_crash_lost words =
    elim (decide_crash (codes "lost") words) [
      | inl found ↦ inl (CrashLost found.0 found.1, (found.2, tt))
      | inr other ↦ inr (λ device objects spell. other device objects spell.0)
    ]

-- words spell none of the commands, one by one
record SpellNoKind (words : List (List ℕ)) : Type 0 where
  no_new : (g : Geometry) → ¬ Spell words (New g)
  no_write : (lba sectors byte : ℕ) → ¬ Spell words (Write lba sectors byte)
  no_zero : (lba sectors : ℕ) → ¬ Spell words (Zero lba sectors)
  no_read : (lba sectors : ℕ) → ¬ Spell words (Read lba sectors)
  no_flush : ¬ Spell words Flush
  no_seal : ¬ Spell words Seal
  no_take : ¬ Spell words TakeJob
  no_done : (number : ℕ) → ¬ Spell words (JobDone number)
  no_failed : (number : ℕ) → ¬ Spell words (JobFailed number)
  no_checkpoint : ¬ Spell words SealCheckpoint
  no_remove : ¬ Spell words Remove
  no_plan_copy : ¬ Spell words PlanCopy
  no_seal_copy : ¬ Spell words SealCopy
  no_drop_plan : ¬ Spell words DropPlan
  no_status : ¬ Spell words Status
  no_stop : (calls : ℕ) → ¬ Spell words (Stop calls)
  no_crash_keep : (device objects : List ℕ) → ¬ Spell words (CrashKeep device objects)
  no_crash_lost : (device objects : List ℕ) → ¬ Spell words (CrashLost device objects)

-- then they spell none
no_command : (words : List (List ℕ)) → SpellNoKind words → SpellNone words
no_command words other (New g) = other.no_new g
no_command words other (Write lba sectors byte) = other.no_write lba sectors byte
no_command words other (Zero lba sectors) = other.no_zero lba sectors
no_command words other (Read lba sectors) = other.no_read lba sectors
no_command words other Flush = other.no_flush
no_command words other Seal = other.no_seal
no_command words other TakeJob = other.no_take
no_command words other (JobDone number) = other.no_done number
no_command words other (JobFailed number) = other.no_failed number
no_command words other SealCheckpoint = other.no_checkpoint
no_command words other Remove = other.no_remove
no_command words other PlanCopy = other.no_plan_copy
no_command words other SealCopy = other.no_seal_copy
no_command words other DropPlan = other.no_drop_plan
no_command words other Status = other.no_status
no_command words other (Stop calls) = other.no_stop calls
no_command words other (CrashKeep device objects) = other.no_crash_keep device objects
no_command words other (CrashLost device objects) = other.no_crash_lost device objects

-- whether words spell a command is decided
decide_spelling : (words : List (List ℕ)) → IsSpelled words ⊎ SpellNone words
decide_spelling words =
    or_next (decide_new words) (λ no_new.
    or_next (decide_write words) (λ no_write.
    or_next (decide_zero words) (λ no_zero.
    or_next (decide_read words) (λ no_read.
    or_next (decide_flush words) (λ no_flush.
    or_next (decide_seal words) (λ no_seal.
    or_next (decide_take words) (λ no_take.
    or_next (decide_done words) (λ no_done.
    or_next (decide_failed words) (λ no_failed.
    or_next (decide_checkpoint words) (λ no_checkpoint.
    or_next (decide_remove words) (λ no_remove.
    or_next (decide_plan_copy words) (λ no_plan_copy.
    or_next (decide_seal_copy words) (λ no_seal_copy.
    or_next (decide_drop_plan words) (λ no_drop_plan.
    or_next (decide_status words) (λ no_status.
    or_next (decide_stop words) (λ no_stop.
    or_next (decide_crash_keep words) (λ no_crash_keep.
    or_next (decide_crash_lost words) (λ no_crash_lost.
    inr (no_command words (record {
      no_new = no_new;
      no_write = no_write;
      no_zero = no_zero;
      no_read = no_read;
      no_flush = no_flush;
      no_seal = no_seal;
      no_take = no_take;
      no_done = no_done;
      no_failed = no_failed;
      no_checkpoint = no_checkpoint;
      no_remove = no_remove;
      no_plan_copy = no_plan_copy;
      no_seal_copy = no_seal_copy;
      no_drop_plan = no_drop_plan;
      no_status = no_status;
      no_stop = no_stop;
      no_crash_keep = no_crash_keep;
      no_crash_lost = no_crash_lost;
    }))))))))))))))))))))

-- where its numbers make no geometry within the limits, they spell no command
no_new : (words : List (List ℕ)) (g : Geometry) → words ≡ command_spelling (New g) → SizesFit g
    → (IsTrue (is_within_limits g) → ⊥)
    → SpellNone words
unfolding first_byte kind_by
no_new words g e fits outside (New h) (e', fits_h) = no_new_outside words g e fits outside h e' fits_h
no_new words g e fits outside command (e', fits') =
    let kinds : kind_by (command_spelling (New g)) ≡ kind_by (command_spelling command) =
    ap kind_by (sym e ∙ e') in omega (arith, kinds)

-- what `then_some` gives where the geometry of these words may be outside the limits
pub new_none : (a b c d : List ℕ) (g : Geometry) (inside : Bool) (found : Option Command) → a ≡ decimal g.sectors
    → b ≡ decimal g.log → c ≡ decimal g.max_write → d ≡ decimal g.batch → SizesFit g → inside ≡ is_within_limits g
    → found ≡ then_some inside (New g) → IfNone found (SpellNone (codes "new" ∷ a ∷ b ∷ c ∷ d ∷ []))
new_none a b c d g true found e1 e2 e3 e4 fits is_inside is_found = rw is_found tt
new_none a b c d g false found e1 e2 e3 e4 fits is_inside is_found =
    rw is_found (no_new _ g (cc) fits (λ inside. let same = is_inside ∙ inside in cc))

-- ---- names

-- a line has at least one word
some_word : (line : List ℕ) → words_of line ≡ [] → ⊥
some_word line e = omega (arith, length-slice_split (λ b. b == 32) line, ap length e)

-- nothing is a front of no words
take-none : (n : ℕ) → take {A = List ℕ} n [] ≡ []
take-none n = grind arith

-- words after a name of one word
begin : (name : List ℕ) (words : List (List ℕ)) → take (length (name ∷ words)) (name ∷ []) ≡ take (length (name ∷ []))
    (name ∷ words)
begin name words = ap (λ rest. name ∷ rest) (take-none (length words))

-- words after a name of two words
begin_two : (name kind : List ℕ) (words : List (List ℕ)) → take (length (name ∷ kind ∷ words)) (name ∷ kind ∷ [])
    ≡ take (length (name ∷ kind ∷ [])) (name ∷ kind ∷ words)
begin_two name kind words = ap (λ rest. name ∷ kind ∷ rest) (take-none (length words))

-- the first word of some words
first_word : List (List ℕ) → List ℕ
first_word [] = []
first_word (word ∷ words) = word

-- words that begin with a command's name begin with its first word
begins_first : (word : List ℕ) (words : List (List ℕ)) (command : Command) → BeginAs (word ∷ words) command
    → word ≡ first_word (command_name command)
unfolding first_word
begins_first word words (New g) e = sym (ap first_word e)
begins_first word words (Write lba sectors byte) e = sym (ap first_word e)
begins_first word words (Zero lba sectors) e = sym (ap first_word e)
begins_first word words (Read lba sectors) e = sym (ap first_word e)
begins_first word words Flush e = sym (ap first_word e)
begins_first word words Seal e = sym (ap first_word e)
begins_first word words TakeJob e = sym (ap first_word e)
begins_first word words (JobDone number) e = sym (ap first_word e)
begins_first word words (JobFailed number) e = sym (ap first_word e)
begins_first word words SealCheckpoint e = sym (ap first_word e)
begins_first word words Remove e = sym (ap first_word e)
begins_first word words PlanCopy e = sym (ap first_word e)
begins_first word words SealCopy e = sym (ap first_word e)
begins_first word words DropPlan e = sym (ap first_word e)
begins_first word words Status e = sym (ap first_word e)
begins_first word words (Stop calls) e = sym (ap first_word e)
begins_first word words (CrashKeep device objects) e = sym (ap first_word e)
begins_first word words (CrashLost device objects) e = sym (ap first_word e)

-- what spells a command begins with its name
spelling_begins : (command : Command) → BeginAs (command_spelling command) command
spelling_begins (New g) = refl
spelling_begins (Write lba sectors byte) = refl
spelling_begins (Zero lba sectors) = refl
spelling_begins (Read lba sectors) = refl
spelling_begins Flush = refl
spelling_begins Seal = refl
spelling_begins TakeJob = refl
spelling_begins (JobDone number) = refl
spelling_begins (JobFailed number) = refl
spelling_begins SealCheckpoint = refl
spelling_begins Remove = refl
spelling_begins PlanCopy = refl
spelling_begins SealCopy = refl
spelling_begins DropPlan = refl
spelling_begins Status = refl
spelling_begins (Stop calls) = refl
spelling_begins (CrashKeep device objects) = refl
spelling_begins (CrashLost device objects) = refl

spelled_begins : (line : List ℕ) (command : Command) → words_of line ≡ command_spelling command → BeginsAs line command
spelled_begins line command e = let P : List (List ℕ) → Type 0 = λ words. BeginAs words command in
    subst P (sym e) (spelling_begins command)

-- how many words the command has whose name is this one byte
words_after_byte : ℕ → ℕ
words_after_byte byte =
    cond (byte == 119) 4 (cond (byte == 122) 3 (cond (byte == 114) 3 (cond (byte == 100) 2 (cond (byte == 120) 2 1))))

-- how many words the command has that has this first word; its first byte is enough where it has more
words_after : List ℕ → ℕ
words_after [] = 0
words_after (byte ∷ []) = words_after_byte byte
words_after (byte ∷ next ∷ bytes) = cond (byte == 110) 5 (cond (byte == 115) 2 4)

-- a command has as many words as its first word has
count_by_name : (command : Command) → length (command_spelling command) ≡ words_after (first_word (command_name command))
unfolding words_after_byte words_after first_word
count_by_name (New g) = refl
count_by_name (Write lba sectors byte) = refl
count_by_name (Zero lba sectors) = refl
count_by_name (Read lba sectors) = refl
count_by_name Flush = refl
count_by_name Seal = refl
count_by_name TakeJob = refl
count_by_name (JobDone number) = refl
count_by_name (JobFailed number) = refl
count_by_name SealCheckpoint = refl
count_by_name Remove = refl
count_by_name PlanCopy = refl
count_by_name SealCopy = refl
count_by_name DropPlan = refl
count_by_name Status = refl
count_by_name (Stop calls) = refl
count_by_name (CrashKeep device objects) = refl
count_by_name (CrashLost device objects) = refl

-- commands with whose names the same words begin have as many words
same_count : (words : List (List ℕ)) (a b : Command) → (words ≡ [] → ⊥) → BeginAs words a → BeginAs words b
    → length (command_spelling a) ≡ length (command_spelling b)
same_count [] a b some begins_a begins_b = absurd (some refl)
same_count (word ∷ words) a b some begins_a begins_b =
    count_by_name a ∙ (ap words_after (sym (begins_first word words a begins_a) ∙ begins_first word words b begins_b)
    ∙ sym (count_by_name b))

-- a line that begins as a command and has another number of words has a wrong one
miscounted_line : (line : List ℕ) (command : Command) → BeginsAs line command → ¬ CountsAs line command → HasWrongWordCount line
miscounted_line line command begins other_count = record {
  command = command;
  known = begins;
  miscounted = λ other begins' counts. other_count (counts
      ∙ same_count (words_of line) other command (some_word line) begins' begins);
}

-- what holds of a line's words holds of words that are those
of_words : (words : List (List ℕ)) (line : List ℕ) (command : Command) → words_of line ≡ words → BeginAs words command
    → BeginsAs line command
of_words words line command e begins = let P : List (List ℕ) → Type 0 = λ w. BeginAs w command in subst P (sym e) begins

-- the same of its words
pub miscounted : (words : List (List ℕ)) (command : Command) → BeginAs words command
    → ¬ (length words ≡ length (command_spelling command)) → AreRefusedAs words WordCount
miscounted words command begins other_count line e =
    miscounted_line line command (of_words words line command e begins) (λ counts. other_count (ap length (sym e) ∙ counts))

-- words that begin with a command's name, as many as it has, that spell none are not in their form
pub misspelt : (words : List (List ℕ)) (command : Command) → BeginAs words command → length words
    ≡ length (command_spelling command)
    → SpellNone words → AreRefusedAs words Form
misspelt words command begins counts none line e = record {
  command = command;
  known = of_words words line command e begins;
  counted = ap length e ∙ counts;
  unspelled = λ other spells. none other (sym e ∙ spells.words, spells.fits);
}

-- the word is the first one of no command
pub record IsNoName (word : List ℕ) : Type 0 where
  pub no_new : ¬ (word ≡ codes "new")
  pub no_write : ¬ (word ≡ codes "w")
  pub no_zero : ¬ (word ≡ codes "z")
  pub no_read : ¬ (word ≡ codes "r")
  pub no_flush : ¬ (word ≡ codes "f")
  pub no_seal : ¬ (word ≡ codes "s")
  pub no_take : ¬ (word ≡ codes "u")
  pub no_done : ¬ (word ≡ codes "d")
  pub no_failed : ¬ (word ≡ codes "x")
  pub no_checkpoint : ¬ (word ≡ codes "c")
  pub no_remove : ¬ (word ≡ codes "k")
  pub no_plan_copy : ¬ (word ≡ codes "g")
  pub no_seal_copy : ¬ (word ≡ codes "G")
  pub no_drop_plan : ¬ (word ≡ codes "q")
  pub no_status : ¬ (word ≡ codes "i")
  pub no_stop : ¬ (word ≡ codes "stop")
  pub no_crash : ¬ (word ≡ codes "crash")

-- no command's name begins with such a word
pub no_name : (word : List ℕ) (words : List (List ℕ)) → IsNoName word → (command : Command) → ¬ BeginAs (word ∷ words) command
unfolding first_word
no_name word words other (New g) e = other.no_new (begins_first word words (New g) e)
no_name word words other (Write lba sectors byte) e = other.no_write (begins_first word words (Write lba sectors byte) e)
no_name word words other (Zero lba sectors) e = other.no_zero (begins_first word words (Zero lba sectors) e)
no_name word words other (Read lba sectors) e = other.no_read (begins_first word words (Read lba sectors) e)
no_name word words other Flush e = other.no_flush (begins_first word words Flush e)
no_name word words other Seal e = other.no_seal (begins_first word words Seal e)
no_name word words other TakeJob e = other.no_take (begins_first word words TakeJob e)
no_name word words other (JobDone number) e = other.no_done (begins_first word words (JobDone number) e)
no_name word words other (JobFailed number) e = other.no_failed (begins_first word words (JobFailed number) e)
no_name word words other SealCheckpoint e = other.no_checkpoint (begins_first word words SealCheckpoint e)
no_name word words other Remove e = other.no_remove (begins_first word words Remove e)
no_name word words other PlanCopy e = other.no_plan_copy (begins_first word words PlanCopy e)
no_name word words other SealCopy e = other.no_seal_copy (begins_first word words SealCopy e)
no_name word words other DropPlan e = other.no_drop_plan (begins_first word words DropPlan e)
no_name word words other Status e = other.no_status (begins_first word words Status e)
no_name word words other (Stop calls) e = other.no_stop (begins_first word words (Stop calls) e)
no_name word words other (CrashKeep device objects) e = other.no_crash (begins_first word words (CrashKeep device objects) e)
no_name word words other (CrashLost device objects) e = other.no_crash (begins_first word words (CrashLost device objects) e)

-- no command's name begins with `crash` and another word than `keep` and `lost`
no_kind : (name kind : List ℕ) (words : List (List ℕ)) → name ≡ codes "crash" → ¬ (kind ≡ codes "keep") → ¬ (kind ≡ codes "lost")
    → (command : Command) → ¬ BeginAs (name ∷ kind ∷ words) command
no_kind name kind words is no_keep no_lost (CrashKeep device objects) e = no_keep (cc)
no_kind name kind words is no_keep no_lost (CrashLost device objects) e = no_lost (cc)
no_kind name kind words is no_keep no_lost command e = cc

-- a line has words
pub no_words : (words : List (List ℕ)) → words ≡ [] → AreRefusedAs words UnknownCommand
no_words words none line e command begins = some_word line (e ∙ none)

-- whether a line spells a command is decided
pub decide_line : (line : List ℕ) → ((command : Command) × SpellsCommand line command)
    ⊎ ((command : Command) → SpellsCommand line command → ⊥)
decide_line line =
    elim (decide_spelling (words_of line)) [
      | inl found ↦ inl (found.0, record { words = found.1.0; fits = found.1.1 })
      | inr none ↦ inr (λ command spells. none command (spells.words, spells.fits))
    ]

-- ---- why a line spells no command: for one reason, and always for some

-- a line that is refused spells no command
pub unknown_unspelled : (line : List ℕ) → IsUnknown line → (command : Command) → ¬ SpellsCommand line command
unknown_unspelled line unknown command spells = unknown command (spelled_begins line command spells.words)

pub miscounted_unspelled : (line : List ℕ) → HasWrongWordCount line → (command : Command) → ¬ SpellsCommand line command
miscounted_unspelled line wrong command spells = wrong.miscounted command (spelled_begins line command spells.words)
    (ap length spells.words)

pub misspelt_unspelled : (line : List ℕ) → IsMisspelt line → (command : Command) → ¬ SpellsCommand line command
misspelt_unspelled line wrong = wrong.unspelled

-- a line is refused for one reason
pub unknown_or_miscounted : (line : List ℕ) → IsUnknown line → HasWrongWordCount line → ⊥
unknown_or_miscounted line unknown wrong = unknown wrong.command wrong.known

pub unknown_or_misspelt : (line : List ℕ) → IsUnknown line → IsMisspelt line → ⊥
unknown_or_misspelt line unknown wrong = unknown wrong.command wrong.known

pub miscounted_or_misspelt : (line : List ℕ) → HasWrongWordCount line → IsMisspelt line → ⊥
miscounted_or_misspelt line wrong misspelt = wrong.miscounted misspelt.command misspelt.known misspelt.counted

-- some command begins with these words' name
abbrev BeginSome : List (List ℕ) → Type 0
BeginSome words = (command : Command) × BeginAs words command

-- or none does
abbrev IsJudged : List (List ℕ) → Type 0
IsJudged words = BeginSome words ⊎ ((command : Command) → ¬ BeginAs words command)

-- after the word `crash` this is decided
decide_kind : (name : List ℕ) (words : List (List ℕ)) → name ≡ codes "crash" → IsJudged (name ∷ words)
decide_kind name [] is = inl (CrashKeep [] [], ap (λ n. n ∷ []) (sym is))
decide_kind name (kind ∷ words) is =
    elim (decided (bytes_eq kind (codes "keep")) (bytes_eq-Decides kind (codes "keep"))) [
      | inl is_keep ↦ inl (CrashKeep [] [], rw (is, is_keep) (begin_two (codes "crash") (codes "keep") words))
      | inr no_keep ↦
          elim (decided (bytes_eq kind (codes "lost")) (bytes_eq-Decides kind (codes "lost"))) [
            | inl is_lost ↦ inl (CrashLost [] [], rw (is, is_lost) (begin_two (codes "crash") (codes "lost") words))
            | inr no_lost ↦ inr (no_kind name kind words is no_keep no_lost)
          ]
    ]

-- whether a word is the name of a command, which is one word, is decided
decide_first : (name word : List ℕ) (words : List (List ℕ)) (command : Command) → command_name command ≡ name ∷ []
    → BeginSome (word ∷ words) ⊎ ¬ (word ≡ name)
decide_first name word words command is =
    elim (decided (bytes_eq word name) (bytes_eq-Decides word name)) [
      | inl same ↦ inl (command, rw (is, same) (begin name words))
      | inr other ↦ inr other
    ]

-- whether some command's name begins with these words is decided
decide_name : (word : List ℕ) (words : List (List ℕ)) → IsJudged (word ∷ words)
decide_name word words =
    or_next (decide_first (codes "new") word words (New (record { sectors = 0; max_write = 0; batch = 0; log = 0 })) refl)
    (λ no_new.
    or_next (decide_first (codes "w") word words (Write 0 0 0) refl) (λ no_write.
    or_next (decide_first (codes "z") word words (Zero 0 0) refl) (λ no_zero.
    or_next (decide_first (codes "r") word words (Read 0 0) refl) (λ no_read.
    or_next (decide_first (codes "f") word words Flush refl) (λ no_flush.
    or_next (decide_first (codes "s") word words Seal refl) (λ no_seal.
    or_next (decide_first (codes "u") word words TakeJob refl) (λ no_take.
    or_next (decide_first (codes "d") word words (JobDone 0) refl) (λ no_done.
    or_next (decide_first (codes "x") word words (JobFailed 0) refl) (λ no_failed.
    or_next (decide_first (codes "c") word words SealCheckpoint refl) (λ no_checkpoint.
    or_next (decide_first (codes "k") word words Remove refl) (λ no_remove.
    or_next (decide_first (codes "g") word words PlanCopy refl) (λ no_plan_copy.
    or_next (decide_first (codes "G") word words SealCopy refl) (λ no_seal_copy.
    or_next (decide_first (codes "q") word words DropPlan refl) (λ no_drop_plan.
    or_next (decide_first (codes "i") word words Status refl) (λ no_status.
    or_next (decide_first (codes "stop") word words (Stop 0) refl) (λ no_stop.
    elim (decided (bytes_eq word (codes "crash")) (bytes_eq-Decides word (codes "crash"))) [
      | inl is_crash ↦ decide_kind word words is_crash
      | inr no_crash ↦ inr (no_name word words (record {
        no_new = no_new;
        no_write = no_write;
        no_zero = no_zero;
        no_read = no_read;
        no_flush = no_flush;
        no_seal = no_seal;
        no_take = no_take;
        no_done = no_done;
        no_failed = no_failed;
        no_checkpoint = no_checkpoint;
        no_remove = no_remove;
        no_plan_copy = no_plan_copy;
        no_seal_copy = no_seal_copy;
        no_drop_plan = no_drop_plan;
        no_status = no_status;
        no_stop = no_stop;
        no_crash = no_crash;
      }))
    ]))))))))))))))))

decide_words : (words : List (List ℕ)) → (words ≡ [] → ⊥) → IsJudged words
decide_words [] some = absurd (some refl)
decide_words (word ∷ words) some = decide_name word words

-- whether a line that begins as a command and spells none has as many words is decided
judge_named : (line : List ℕ) (command : Command) → BeginsAs line command → ((other : Command) → ¬ SpellsCommand line other)
    → HasWrongWordCount line ⊎ IsMisspelt line
judge_named line command begins none =
    elim (decided (length (words_of line) == length (command_spelling command)) (Decides-eqb _ _)) [
      | inl counts ↦ inr (record { command = command; known = begins; counted = counts; unspelled = none })
      | inr other_count ↦ inl (miscounted_line line command begins other_count)
    ]

judge_unspelled : (line : List ℕ) → ((command : Command) → ¬ SpellsCommand line command) → IsUnknown line
    ⊎ (HasWrongWordCount line ⊎ IsMisspelt line)
judge_unspelled line none =
    elim (decide_words (words_of line) (some_word line)) [
      | inl named ↦ inr (judge_named line named.0 named.1 none)
      | inr unknown ↦ inl unknown
    ]

-- each line spells a command or is refused
pub judge_line : (line : List ℕ) → ((command : Command) × SpellsCommand line command)
    ⊎ (IsUnknown line ⊎ (HasWrongWordCount line ⊎ IsMisspelt line))
judge_line line =
    elim (decide_line line) [
      | inl found ↦ inl found
      | inr none ↦ inr (judge_unspelled line none)
    ]
