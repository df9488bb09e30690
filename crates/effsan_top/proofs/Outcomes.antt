-- What a run, or the cause that there is none, says of the status.
use Rattle.std.proofs.Common.{◌≡◌, ℕ, ◌+◌, ◌<◌, ◌≤◌, ◌⊎◌, inl, inr, zero, suc, Bool, true, false, List, [], ◌∷◌, length, drop, Option, Some, None, refl, sym, ap, subst, ◌∙◌, arith}
use Rattle.std.specs.Prelude.{IfSome, slice_get}
use Rattle.std.proofs.lemmas.Bool.{cases_lt}
use Rattle.plain_meaning.specs.declared.record.Ending.{Ending}
use Rattle.plain_meaning.specs.declared.record.Record.{Record}
use Rattle.plain_meaning.specs.declared.tree.Program.{Program}
use Rattle.plain_meaning.specs.Names.{IsEntry, HasNone}
use Rattle.effs_io.specs.Streams.{max_text, Gave, GaveSome}
use Rattle.effs_io.specs.declared.transfer.ReadError.{ReadError}
use Rattle.effs_io.specs.declared.transfer.ReadError.TheVariants as reading
use Rattle.effs_words.specs.Options.{watch_places}
use Rattle.effs_words.specs.Words.{Words as Ask, BadWord, IsMemory, HasCause as Refused}
use Rattle.effs_words.specs.declared.command.Command.{Command}
use Rattle.effs_words.specs.declared.command.Command.TheVariants as command
use Rattle.effs_words.specs.declared.command.RunWords.{RunWords}
use Rattle.effs_words.specs.declared.error.WordError.{WordError}
use Rattle.effs_words.specs.declared.error.WordError.TheVariants as word
use Rattle.effsan_top.specs.declared.faults.Fault.{Fault}
use Rattle.effsan_top.specs.declared.program.ProgramError.{ProgramError}
use Rattle.effsan_top.specs.declared.program.ProgramError.TheVariants as error
use Rattle.effsan_top.specs.declared.refusal.Refusal.{Refusal}
use Rattle.effsan_top.specs.declared.refusal.Refusal.TheVariants as r
use Rattle.effsan_top.specs.declared.served.SoloPlay.{SoloPlay}
use Rattle.effsan_top.specs.Statuses.{is_answer, is_run, is_read_whole, is_status, run_status, some_reported, some_spent, status_by}
use Rattle.effsan_top.specs.Faults.{IsAtFault}
use Rattle.effsan_top.specs.Programs.{IsProgram, OneProgramLaw, NeverBothLaw}
use Rattle.effsan_top.specs.Served.{Words, AskSolo, AreRefused, IsUnserved, bad_word, unserved, unknown_watch, play_not_yet, solo_words, first_watch}
use Rattle.effsan_top.specs.Lines.{status_of}
use Rattle.effsan_top.specs.Errors.{of_program, of_read, of_words}
use Rattle.effsan_top.specs.Causes.{IsTold, IsGiven, IsTooLarge, HasFault, HasRun, NamesNone, HasCause}
use Rattle.effsan_top.specs.Calls.{JudgesWords, AnswersText, IsWithoutRun, IsAnswered, Plays, TellsEndings}
use Rattle.effsan_top.specs.Steps.{RunsText, RunsWords, HasProgramCause, HasTextCause, HasWordsCause}

-- ---- causes, step by step

pub program_cause : (name text : List ℕ) (e : ProgramError) → HasProgramCause text e → HasTextCause name text (of_program e)
program_cause name text error.Memory h = tt
program_cause name text (error.Faulty fault) h = h

module _ (words : Words) (left : Option (List ℕ)) (read : Type 0) where
  pub words_cause : (refusal : Refusal) → HasWordsCause words refusal → HasCause words left read ⊥ refusal
  words_cause (r.Words e) h = h
  words_cause r.NotYet h = h
  words_cause r.OutOfMemory h = h
  words_cause r.ReadFault h = absurd h
  words_cause r.TooLarge h = absurd h
  words_cause (r.Faulty fault) h = absurd h
  words_cause (r.NotFound name) h = absurd h
  words_cause r.WriteFault h = absurd h

  module _ (play : SoloPlay) (asked : AskSolo words play) where
    pub text_cause : (text : List ℕ) → IsGiven left text → (refusal : Refusal) → HasTextCause play.entry text refusal →
        HasCause words left read ⊥ refusal
    text_cause text given (r.Faulty fault) h = ((play, asked), record { text = text; given = given; is = h })
    text_cause text given (r.NotFound name) h = record {
      play = play;
      asked = asked;
      is = h.0;
      lacks = record { text = text; given = given; program = h.1.program; read = h.1.read; missing = h.1.missing };
    }
    text_cause text given r.OutOfMemory h = (command.Play (solo_words play) [], asked)
    text_cause text given (r.Words e) h = absurd h
    text_cause text given r.NotYet h = absurd h
    text_cause text given r.ReadFault h = absurd h
    text_cause text given r.TooLarge h = absurd h
    text_cause text given r.WriteFault h = absurd h

    pub text_run : (text : List ℕ) → IsGiven left text → (run : Record) → RunsText play text run → RunsWords words left run
    text_run text given run h = record {
      play = play;
      asked = asked;
      has = record { text = text; given = given; program = h.program; read = h.read; entry = h.entry; named = h.named; runs = h.runs };
    }

    -- there are lists that are longer than this
    long : (n : ℕ) → (text : List ℕ) × (n < length text)
    long zero = (0 ∷ [], omega arith)
    long (suc n) = (let more = long n in (0 ∷ more.0, omega (arith, more.1)))

    over : (before after : Option (List ℕ)) → Gave (max_text + 1) before after → IsTooLarge before
    over None after h = (let some = long max_text in record { text = some.0; told = tt; over = some.1 })
    over (Some text) after h = record { text = text; told = refl; over = (let most = h.0 in omega (arith, most)) }

    pub read_cause : (after : Option (List ℕ)) (e : ReadError) → (e ≡ reading.Fault → read) → (e ≡ reading.TooLarge → Gave (max_text + 1) left after) →
        HasCause words left read ⊥ (of_read e)
    read_cause after (reading.Memory e) fault large = (command.Play (solo_words play) [], asked)
    read_cause after reading.Fault fault large = ((play, asked), fault refl)
    read_cause after reading.TooLarge fault large = ((play, asked), over left after (large refl))

  -- what was written gives no cause before anything was
  pub with_written : (written : Type 0) (refusal : Refusal) → HasCause words left read ⊥ refusal → HasCause words left read written refusal
  with_written written (r.Words e) h = h
  with_written written r.NotYet h = h
  with_written written r.OutOfMemory h = h
  with_written written r.ReadFault h = h
  with_written written r.TooLarge h = h
  with_written written (r.Faulty fault) h = h
  with_written written (r.NotFound name) h = h
  with_written written r.WriteFault h = absurd h.1

-- ---- the laws

pub record Laws : Type 0 where
  pub apart : (words : Words) (command : Command) (e : WordError) → Ask words command → BadWord words e → ⊥
  pub one_command : (words : Words) (command other : Command) → Ask words command → Ask words other → other ≡ command
  pub watches : (words : Words) (run : RunWords) (schedule : List ℕ) → Ask words (command.Play run schedule) →
      length (watch_places true (drop 1 words)) ≡ length run.watch
  pub one_program : OneProgramLaw
  pub never_both : NeverBothLaw

none_first : {A : Type 0} (list : List A) (x : A) → length list ≡ 0 → slice_get list 0 ≡ Some x → ⊥
none_first [] x empty is = absurd cc
none_first (first ∷ list) x empty is = absurd (omega (arith, empty))

module _ (law : Laws) (words : Words) (play : SoloPlay) (asked : AskSolo words play) where
  -- what is served is not refused
  solo_served : (refusal : Refusal) → IsUnserved words (command.Play (solo_words play) []) refusal → ⊥
  solo_served refusal (unknown_watch {n = n} is) = none_first (watch_places true (drop 1 words)) n (law.watches words (solo_words play) [] asked) is
  solo_served refusal (play_not_yet none apart) = apart play refl refl

  not_unserved : (command : Command) (refusal : Refusal) → Ask words command → IsUnserved words command refusal → ⊥
  not_unserved command refusal ask is =
      solo_served refusal (subst (λ c. IsUnserved words c refusal) (law.one_command words _ command asked ask) is)

  not_bad : (e : WordError) → BadWord words e → ⊥
  not_bad e bad = law.apart words _ e asked bad

  not_refused : (refusal : Refusal) → AreRefused words refusal → ⊥
  not_refused refusal (bad_word {e = e} bad) = not_bad e bad
  not_refused refusal (unserved {command = command} ask is) = not_unserved command refusal ask is

  -- words that are served, at any status but that of refused words
  pub served_words : (status : ℕ) → (status ≡ 2 → ⊥) → JudgesWords words status
  served_words status other = record {
    bad = λ e bad. absurd (not_bad e bad);
    unserved = λ command refusal ask is. absurd (not_unserved command refusal ask is);
    refused = λ is. absurd (other is);
    served = inr (play, asked);
  }

  abbrev entries_in : Command → List (List ℕ)
  entries_in (command.Play run schedule) = run.entries
  entries_in other = []

  abbrev turns_in : Command → ℕ
  turns_in (command.Play run schedule) = run.turns
  turns_in other = 0

  same_play : (other : SoloPlay) → AskSolo words other → other ≡ play
  same_play other ask =
      let e = law.one_command words (command.Play (solo_words play) []) (command.Play (solo_words other) []) asked ask in
      let lists : other.entry ∷ [] ≡ play.entry ∷ [] = ap entries_in e in
      let entries : other.entry ≡ play.entry = cc in
      let turns : other.turns ≡ play.turns = ap turns_in e in
      subst (λ x. other ≡ record { entry = x; turns = play.turns }) entries (subst (λ y. other ≡ record { entry = other.entry; turns = y }) turns refl)

entry_one : (program : Program) (name : List ℕ) (a b : ℕ) → IsEntry program name a → IsEntry program name b → a ≡ b
entry_one program name a b p q = elim (cases_lt a b) [
  | inl low ↦ absurd (q.first a low p.named)
  | inr high ↦ elim (cases_lt b a) [
    | inl low ↦ absurd (p.first b low q.named)
    | inr most ↦ omega arith
  ]
]

told_text : (left : Option (List ℕ)) (text given : List ℕ) → left ≡ Some text → IsTold left given → given ≡ text
told_text left text given is told = subst (λ l. IsTold l given) is told

-- ---- no run

module _ (law : Laws) (words : Words) (left : Option (List ℕ)) (read written : Type 0) where
  pub refused_words : (refusal : Refusal) → HasCause words left read written refusal → JudgesWords words (status_of refusal)
  refused_words (r.Words e) h = record {
    bad = λ e bad. refl;
    unserved = λ command refusal ask is. inl refl;
    refused = λ is. (r.Words e, h);
    served = inl (inl refl);
  }
  refused_words r.NotYet h = record {
    bad = λ e bad. refl;
    unserved = λ command refusal ask is. inl refl;
    refused = λ is. (r.NotYet, h);
    served = inl (inl refl);
  }
  refused_words r.OutOfMemory h = record {
    bad = λ e bad. absurd (law.apart words h.0 e h.1 bad);
    unserved = λ command refusal ask is. inr refl;
    refused = λ is. absurd (omega arith);
    served = inl (inr refl);
  }
  refused_words r.ReadFault h = served_words law words h.0.0 h.0.1 4 (λ is. omega arith)
  refused_words r.TooLarge h = served_words law words h.0.0 h.0.1 7 (λ is. omega arith)
  refused_words (r.Faulty fault) h = served_words law words h.0.0 h.0.1 3 (λ is. omega arith)
  refused_words (r.NotFound name) h = served_words law words h.play h.asked 3 (λ is. omega arith)
  refused_words r.WriteFault h = served_words law words h.0.0 h.0.1 5 (λ is. omega arith)

  module _ (play : SoloPlay) (asked : AskSolo words play) (text : List ℕ) (told : left ≡ Some text) where
    -- a read fault, or the end of memory, in place of any other
    in_place : (status : ℕ) → (status ≡ 4) ⊎ (status ≡ 6) → AnswersText play text status
    in_place status is = record {
      too_large = λ over. inr is;
      refused = λ fits none. inr is;
      accepted = λ program entry fits p named. inr (inr is);
    }

    large : IsTooLarge left → max_text < length text
    large h = subst (λ t. max_text < length t) (told_text left text h.text told h.told) h.over

    fits_of : (given : List ℕ) → IsGiven left given → length text ≤ max_text
    fits_of given h = subst (λ t. length t ≤ max_text) (told_text left text given told h.told) h.fits

    fault_of : (fault : Fault) → HasFault left fault → IsAtFault text fault
    fault_of fault h = subst (λ t. IsAtFault t fault) (told_text left text h.text told h.given.told) h.is

    none_accepted : (name : List ℕ) → NamesNone words left name → (program : Program) (entry : ℕ) → IsProgram text program → IsEntry program play.entry entry → ⊥
    none_accepted name h program entry p named =
        let l = h.lacks in
        let here : IsProgram text l.program = subst (λ t. IsProgram t l.program) (told_text left text l.text told l.given.told) l.read in
        let same : program ≡ l.program = law.one_program text program l.program p here in
        let plays : h.play ≡ play = same_play law words play asked h.play h.asked in
        let missing : HasNone l.program play.entry = subst (λ (q : SoloPlay). HasNone l.program q.entry) plays l.missing in
        let there : IsEntry l.program play.entry entry = subst (λ q. IsEntry q play.entry entry) same named in
        missing entry there.named

    lacking : (name : List ℕ) → NamesNone words left name → IsWithoutRun play.entry text
    lacking name h =
        let l = h.lacks in
        let here : IsProgram text l.program = subst (λ t. IsProgram t l.program) (told_text left text l.text told l.given.told) l.read in
        let plays : h.play ≡ play = same_play law words play asked h.play h.asked in
        inr (l.program, here, subst (λ (q : SoloPlay). HasNone l.program q.entry) plays l.missing)

    pub refused_text : (refusal : Refusal) → HasCause words left read written refusal → (refusal ≡ r.WriteFault → ⊥) →
        AnswersText play text (status_of refusal)
    refused_text (r.Words e) h early = absurd (not_refused law words play asked (r.Words e) h)
    refused_text r.NotYet h early = absurd (not_refused law words play asked r.NotYet h)
    refused_text r.OutOfMemory h early = in_place 6 (inr refl)
    refused_text r.ReadFault h early = in_place 4 (inl refl)
    refused_text r.TooLarge h early = record {
      too_large = λ over. inl refl;
      refused = λ fits none. absurd (let over = large h.1 in omega (arith, fits, over));
      accepted = λ program entry fits p named. absurd (let over = large h.1 in omega (arith, fits, over));
    }
    refused_text (r.Faulty fault) h early = record {
      too_large = λ over. absurd (let fits = fits_of h.1.text h.1.given in omega (arith, fits, over));
      refused = λ fits none. inl refl;
      accepted = λ program entry fits p named. absurd (law.never_both text program fault p (fault_of fault h.1));
    }
    refused_text (r.NotFound name) h early = record {
      too_large = λ over. absurd (let fits = fits_of h.lacks.text h.lacks.given in omega (arith, fits, over));
      refused = λ fits none. inl refl;
      accepted = λ program entry fits p named. absurd (none_accepted name h program entry p named);
    }
    refused_text r.WriteFault h early = absurd (early refl)

  pub refused_plays : (refusal : Refusal) → HasCause words left read written refusal → (refusal ≡ r.WriteFault → ⊥) → (run : Record) →
      (play : SoloPlay) → AskSolo words play → Plays play left (status_of refusal) run
  refused_plays refusal h early run play asked = record {
    ran = λ is. absurd (no_run refusal early is);
    endings = λ is. absurd (no_answer refusal is);
    text = λ text told. refused_text play asked text told refusal h early;
  }
    where
      no_run : (refusal : Refusal) → (refusal ≡ r.WriteFault → ⊥) → is_run (status_of refusal) ≡ true → ⊥
      no_run (r.Words e) early is = absurd cc
      no_run r.NotYet early is = absurd cc
      no_run r.OutOfMemory early is = absurd cc
      no_run r.ReadFault early is = absurd cc
      no_run r.TooLarge early is = absurd cc
      no_run (r.Faulty fault) early is = absurd cc
      no_run (r.NotFound name) early is = absurd cc
      no_run r.WriteFault early is = absurd (early refl)

      no_answer : (refusal : Refusal) → is_answer (status_of refusal) ≡ true → ⊥
      no_answer (r.Words e) is = absurd cc
      no_answer r.NotYet is = absurd cc
      no_answer r.OutOfMemory is = absurd cc
      no_answer r.ReadFault is = absurd cc
      no_answer r.TooLarge is = absurd cc
      no_answer (r.Faulty fault) is = absurd cc
      no_answer (r.NotFound name) is = absurd cc
      no_answer r.WriteFault is = absurd cc

-- ---- a run

statuses_by : (reported spent : Bool) → (status_by reported spent ≡ 0) ⊎ ((status_by reported spent ≡ 1) ⊎ (status_by reported spent ≡ 8))
statuses_by true spent = inr (inl refl)
statuses_by false true = inr (inr refl)
statuses_by false false = inl refl

pub run_statuses : (endings : List Ending) → (run_status endings ≡ 0) ⊎ ((run_status endings ≡ 1) ⊎ (run_status endings ≡ 8))
run_statuses endings = statuses_by (some_reported endings) (some_spent endings)

pub not_five : (endings : List Ending) → run_status endings ≡ 5 → ⊥
not_five endings is = elim (run_statuses endings) [
  | inl finished ↦ omega arith
  | inr other ↦ elim other [ inl reported ↦ omega arith | inr stopped ↦ omega arith ]
]

-- what the status of a run is, whether or not it was written whole
pub record OfRun (endings : List Ending) (status : ℕ) : Type 0 where
  pub run : is_run status ≡ true
  pub whole : is_read_whole status ≡ true
  pub known : is_status status ≡ true
  pub words : status ≡ 2 → ⊥
  pub answer : is_answer status ≡ true → status ≡ run_status endings
  pub cut : is_answer status ≡ false → status ≡ 5
  pub large : status ≡ 7 → ⊥
  pub refused : status ≡ 3 → ⊥
  pub answered : IsAnswered status

at : (endings : List Ending) (n : ℕ) → run_status endings ≡ n → (n ≡ 0) ⊎ ((n ≡ 1) ⊎ (n ≡ 8)) → OfRun endings n
at endings n is (inl e) = rw e (record {
  run = refl;
  whole = refl;
  known = refl;
  words = λ e. omega arith;
  answer = λ a. sym (is ∙ e);
  cut = λ a. absurd cc;
  large = λ e. omega arith;
  refused = λ e. omega arith;
  answered = inl refl;
})
at endings n is (inr (inl e)) = rw e (record {
  run = refl;
  whole = refl;
  known = refl;
  words = λ e. omega arith;
  answer = λ a. sym (is ∙ e);
  cut = λ a. absurd cc;
  large = λ e. omega arith;
  refused = λ e. omega arith;
  answered = inl refl;
})
at endings n is (inr (inr e)) = rw e (record {
  run = refl;
  whole = refl;
  known = refl;
  words = λ e. omega arith;
  answer = λ a. sym (is ∙ e);
  cut = λ a. absurd cc;
  large = λ e. omega arith;
  refused = λ e. omega arith;
  answered = inl refl;
})

at_five : (endings : List Ending) → OfRun endings 5
at_five endings = record {
  run = refl;
  whole = refl;
  known = refl;
  words = λ e. omega arith;
  answer = λ a. absurd cc;
  cut = λ a. refl;
  large = λ e. omega arith;
  refused = λ e. omega arith;
  answered = inr (inl refl);
}

pub of_run : (endings : List Ending) (status : ℕ) → (status ≡ run_status endings) ⊎ (status ≡ 5) → OfRun endings status
of_run endings status (inl is) = subst (OfRun endings) (sym is) (at endings (run_status endings) refl (run_statuses endings))
of_run endings status (inr is) = subst (OfRun endings) (sym is) (at_five endings)

module _ (law : Laws) (words : Words) (left : Option (List ℕ)) (run : Record) (h : RunsWords words left run) where
  pub run_words_judged : (endings : List Ending) (status : ℕ) → OfRun endings status → JudgesWords words status
  run_words_judged endings status s = served_words law words h.play h.asked status s.words

  module _ (play : SoloPlay) (asked : AskSolo words play) where
    has : HasRun play left run
    has = subst (λ p. HasRun p left run) (same_play law words play asked h.play h.asked) h.has

    run_text : (text : List ℕ) → left ≡ Some text → (endings : List Ending) (status : ℕ) → OfRun endings status → AnswersText play text status
    run_text text told endings status s =
        let same : has.text ≡ text = told_text left text has.text told has.given.told in
        let fits : length text ≤ max_text = subst (λ t. length t ≤ max_text) same has.given.fits in
        let read : IsProgram text has.program = subst (λ t. IsProgram t has.program) same has.read in
        record {
          too_large = λ over. absurd (omega (arith, fits, over));
          refused = λ short none. absurd (without text read none);
          accepted = λ program entry short p named. s.answered;
        }
      where
        without : (text : List ℕ) → IsProgram text has.program → IsWithoutRun play.entry text → ⊥
        without text read (inl f) = law.never_both text has.program f.0 read f.1
        without text read (inr l) =
            let programs : has.program ≡ l.0 = law.one_program text has.program l.0 read l.1 in
            let there : IsEntry l.0 play.entry has.entry = subst (λ q. IsEntry q play.entry has.entry) programs has.named in
            l.2 has.entry there.named

    pub run_plays : (endings : List Ending) (status : ℕ) → OfRun endings status → (is_answer status ≡ true → TellsEndings status run.endings) →
        Plays play left status run
    run_plays endings status s tells = record {
      ran = λ is. has;
      endings = tells;
      text = λ text told. run_text text told endings status s;
    }

-- ---- what was read

pub gave_all : (before after : Option (List ℕ)) (n : ℕ) → IfSome before (λ told. (length told ≤ n) × (after ≡ Some [])) → GaveSome n before after
gave_all None after n h = (0, omega arith, tt, tt)
gave_all (Some told) after n h = (length told, h.0, omega arith, rw h.1 (ap (λ l. Some l) (sym (all_dropped told))))
  where
    all_dropped : (list : List ℕ) → drop (length list) list ≡ []
    all_dropped [] = refl
    all_dropped (x ∷ list) = all_dropped list

pub gave_none : (before after : Option (List ℕ)) (n : ℕ) → after ≡ before → GaveSome n before after
gave_none None after n is = (0, omega arith, tt, tt)
gave_none (Some told) after n is = (0, omega arith, omega arith, is)

-- the source was read to its end
pub read_whole : (before after : Option (List ℕ)) (bytes : List ℕ) → IfSome before (λ told. bytes ≡ told) → IfSome before (λ told. after ≡ Some []) →
    length bytes ≤ max_text → GaveSome (max_text + 1) before after
read_whole None after bytes all end small = gave_all None after (max_text + 1) tt
read_whole (Some told) after bytes all end small =
    gave_all (Some told) after (max_text + 1) (let few : length told ≤ max_text = subst (λ l. length l ≤ max_text) all small in omega (arith, few), end)

-- ---- statuses of refusals

pub text_status : (name text : List ℕ) (refusal : Refusal) → HasTextCause name text refusal → status_of refusal ≡ 2 → ⊥
text_status name text (r.Faulty fault) h is = absurd (omega arith)
text_status name text (r.NotFound missing) h is = absurd (omega arith)
text_status name text r.OutOfMemory h is = absurd (omega arith)
text_status name text (r.Words e) h is = absurd h
text_status name text r.NotYet h is = absurd h
text_status name text r.ReadFault h is = absurd h
text_status name text r.TooLarge h is = absurd h
text_status name text r.WriteFault h is = absurd h

pub words_status : (words : Words) (refusal : Refusal) → HasWordsCause words refusal → is_read_whole (status_of refusal) ≡ true → ⊥
words_status words (r.Words e) h is = absurd cc
words_status words r.NotYet h is = absurd cc
words_status words r.OutOfMemory h is = absurd cc
words_status words (r.Faulty fault) h is = absurd h
words_status words (r.NotFound missing) h is = absurd h
words_status words r.ReadFault h is = absurd h
words_status words r.TooLarge h is = absurd h
words_status words r.WriteFault h is = absurd h

pub read_status : (e : ReadError) → is_read_whole (status_of (of_read e)) ≡ true → ⊥
read_status (reading.Memory e) is = absurd cc
read_status reading.Fault is = absurd cc
read_status reading.TooLarge is = absurd cc

pub read_not_words : (e : ReadError) → status_of (of_read e) ≡ 2 → ⊥
read_not_words (reading.Memory e) is = absurd (omega arith)
read_not_words reading.Fault is = absurd (omega arith)
read_not_words reading.TooLarge is = absurd (omega arith)

pub not_write : (words : Words) (left : Option (List ℕ)) (read : Type 0) (refusal : Refusal) → HasCause words left read ⊥ refusal → refusal ≡ r.WriteFault → ⊥
not_write words left read r.WriteFault h is = absurd h.1
not_write words left read (r.Words e) h is = absurd cc
not_write words left read r.NotYet h is = absurd cc
not_write words left read r.OutOfMemory h is = absurd cc
not_write words left read r.ReadFault h is = absurd cc
not_write words left read r.TooLarge h is = absurd cc
not_write words left read (r.Faulty fault) h is = absurd cc
not_write words left read (r.NotFound missing) h is = absurd cc

-- a refusal has a status, and no answer
pub record OfRefusal (refusal : Refusal) : Type 0 where
  pub known : is_status (status_of refusal) ≡ true
  pub answer : is_answer (status_of refusal) ≡ false

pub of_refusal : (refusal : Refusal) → OfRefusal refusal
of_refusal (r.Words e) = record { known = refl; answer = refl }
of_refusal r.NotYet = record { known = refl; answer = refl }
of_refusal r.OutOfMemory = record { known = refl; answer = refl }
of_refusal r.ReadFault = record { known = refl; answer = refl }
of_refusal r.TooLarge = record { known = refl; answer = refl }
of_refusal (r.Faulty fault) = record { known = refl; answer = refl }
of_refusal (r.NotFound missing) = record { known = refl; answer = refl }
of_refusal r.WriteFault = record { known = refl; answer = refl }

pub not_five_refusal : (words : Words) (left : Option (List ℕ)) (read : Type 0) (refusal : Refusal) → HasCause words left read ⊥ refusal → status_of refusal ≡ 5 → ⊥
not_five_refusal words left read r.WriteFault h is = absurd h.1
not_five_refusal words left read (r.Words e) h is = absurd (omega arith)
not_five_refusal words left read r.NotYet h is = absurd (omega arith)
not_five_refusal words left read r.OutOfMemory h is = absurd (omega arith)
not_five_refusal words left read r.ReadFault h is = absurd (omega arith)
not_five_refusal words left read r.TooLarge h is = absurd (omega arith)
not_five_refusal words left read (r.Faulty fault) h is = absurd (omega arith)
not_five_refusal words left read (r.NotFound missing) h is = absurd (omega arith)

-- a refusal of words, before anything is served
pub refusal_of_words : (words : Words) → ((e : WordError) → BadWord words e → IsMemory e → ⊥) → (e : WordError) → Refused words e → HasWordsCause words (of_words e)
refusal_of_words words law (word.Memory m) (inl bad) = absurd (law (word.Memory m) bad tt)
refusal_of_words words law (word.Memory m) (inr o) = (o.command, o.asked)
refusal_of_words words law word.NoCommand (inl bad) = bad_word bad
refusal_of_words words law (word.UnknownWord n) (inl bad) = bad_word bad
refusal_of_words words law (word.MissingValue n) (inl bad) = bad_word bad
refusal_of_words words law (word.BadNumber n) (inl bad) = bad_word bad
refusal_of_words words law (word.Repeated n) (inl bad) = bad_word bad
refusal_of_words words law word.NoEntry (inl bad) = bad_word bad
refusal_of_words words law word.TooManyEntries (inl bad) = bad_word bad
refusal_of_words words law word.NeedsThreads (inl bad) = bad_word bad
refusal_of_words words law (word.UnknownWatch n) (inl bad) = bad_word bad
refusal_of_words words law (word.Excluded n) (inl bad) = bad_word bad
refusal_of_words words law word.NoCommand (inr o) = absurd o.memory
refusal_of_words words law (word.UnknownWord n) (inr o) = absurd o.memory
refusal_of_words words law (word.MissingValue n) (inr o) = absurd o.memory
refusal_of_words words law (word.BadNumber n) (inr o) = absurd o.memory
refusal_of_words words law (word.Repeated n) (inr o) = absurd o.memory
refusal_of_words words law word.NoEntry (inr o) = absurd o.memory
refusal_of_words words law word.TooManyEntries (inr o) = absurd o.memory
refusal_of_words words law word.NeedsThreads (inr o) = absurd o.memory
refusal_of_words words law (word.UnknownWatch n) (inr o) = absurd o.memory
refusal_of_words words law (word.Excluded n) (inr o) = absurd o.memory

-- ---- names of watchers

none_at_all : (list : List ℕ) → slice_get list 0 ≡ None → length list ≡ 0
none_at_all [] is = refl
none_at_all (first ∷ list) is = absurd cc

nothing_in : {A : Type 0} (list : List A) → length list ≡ 0 → list ≡ []
nothing_in [] is = refl
nothing_in (first ∷ list) is = absurd (omega (arith, is))

-- where no name of a watcher has a place, none was given
pub unwatched : (words : Words) (run : RunWords) (schedule : List ℕ) → length (watch_places true (drop 1 words)) ≡ length run.watch →
    first_watch words ≡ None → run.watch ≡ []
unwatched words run schedule same none = nothing_in run.watch (sym same ∙ none_at_all (watch_places true (drop 1 words)) none)
