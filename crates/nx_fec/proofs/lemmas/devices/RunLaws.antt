-- Runs that fail before they write, and runs that write when all else succeeded.
use Rattle.std.proofs.Common.{◌≡◌, ◌≢◌, ◌∙◌, ℕ, Bool, List, [], Option, Result, Ok, Err}
use Rattle.std.proofs.Common.{append-nil, arith, refl, subst, sym}
use Rattle.std.specs.Global.{Vec}
use Rattle.std.specs.declared.alloc.AllocError.{AllocError}
use Rattle.nx_fec.specs.emissions.Aligned.{ExplainsAligned}
use Rattle.nx_fec.specs.air_files.Lines.{IsBitFile, IsFaultless}
use Rattle.nx_fec.specs.Runs.{Encodes, ExplainsReading, ExplainsWordRun, IsWordRun}
use Rattle.nx_fec.specs.Runs.{ReadsElements, ReadsWhole, aligned_fault, file_limit, reading_fault}
use Rattle.nx_fec.specs.Runs.{reads_then_writes}
use Rattle.nx_fec.specs.Transfers.{Contents, CountedDevice, Extent, Reads, Transfers, devices}
use Rattle.nx_fec.specs.Transfers.{input, read_from}
use Rattle.nx_fec.specs.declared.emissions.aligned.AlignedFault.{AlignedFault}
use Rattle.nx_fec.specs.declared.emissions.aligned.AlignedFault.TheVariants as words
use Rattle.nx_fec.specs.declared.fault.ReadFault.{ReadFault}
use Rattle.nx_fec.specs.declared.fault.ReadFault.TheVariants as read
use Rattle.nx_fec.specs.declared.fault.RunFault.{RunFault}
use Rattle.nx_fec.specs.declared.fault.RunFault.TheVariants.{Read, FileTooLong, LineLong, LineCut}
use Rattle.nx_fec.specs.declared.fault.RunFault.TheVariants.{BadLine, Ragged, NoSuchCharacter}
use Rattle.nx_fec.specs.declared.fault.RunFault.TheVariants.{Write, Memory}
use Rattle.nx_fec.proofs.lemmas.lines.ReadingLaws.{Err-same}
use Rattle.nx_fec.proofs.lemmas.devices.TransferLaws.{Ok-not_err, Reads-on, Write-not_read, Writes-none}

-- a fault of reading elements is one of the run
reading-explains : (IsText : List ℕ → ℕ → Type 0) (extent : Extent) (bytes : List ℕ)
    (contents : Contents) (fault : RunFault) → ExplainsReading extent file_limit bytes fault
    → ExplainsWordRun IsText extent bytes contents fault
reading-explains IsText extent bytes contents Read h = h
reading-explains IsText extent bytes contents FileTooLong h = h
reading-explains IsText extent bytes contents (LineLong line) h = h
reading-explains IsText extent bytes contents (LineCut line) h = h
reading-explains IsText extent bytes contents (BadLine line) h = h
reading-explains IsText extent bytes contents (Ragged bits) h = absurd h
reading-explains IsText extent bytes contents (NoSuchCharacter at) h = h
reading-explains IsText extent bytes contents (Write written) h = absurd h
reading-explains IsText extent bytes contents (Memory error) h = h

reading-not_write : (extent : Extent) (limit : ℕ) (bytes : List ℕ) (fault : RunFault)
    → ExplainsReading extent limit bytes fault → (written : ℕ) → fault ≢ Write written
reading-not_write extent limit bytes fault h written same =
    subst (ExplainsReading extent limit bytes) same h

-- a run whose reading failed
pub WordRun-unread : {R W : Type 0} (IsText : List ℕ → List ℕ → ℕ → Type 0)
    (remaining : R → Option (List ℕ)) (contents : W → Option (List ℕ))
    (reader reader_after : CountedDevice R) (writer : CountedDevice W) (fault : RunFault)
    → writer.failures ≡ 0
    → ReadsElements remaining reader reader_after (Err fault)
    → IsWordRun IsText (devices remaining contents reader reader_after writer writer) (Err fault)
WordRun-unread IsText remaining contents reader reader_after writer fault none h = record {
  reads = Reads-on _ _ _ _ _ _ _ h
      (λ extent bytes k. reading-explains (IsText bytes) extent bytes _ fault k)
      (λ bytes k clean. clean) (Err-same fault Read) (Err-same fault Read);
  writes = Writes-none _ _ _
      (λ written same. reading-not_write (read_from (input remaining reader reader_after))
      file_limit h.bytes fault h.answer written cc) none;
  unwritten = λ other. refl;
}

-- elements that are no whole words, or no memory for their text
aligned-explains : (IsText : List ℕ → ℕ → Type 0) (extent : Extent) (bytes : List ℕ)
    (contents : Contents) (bits : List Bool) (fault : AlignedFault) → extent.at_end
    → IsBitFile file_limit bytes bits → ExplainsAligned bits fault
    → ExplainsWordRun IsText extent bytes contents (aligned_fault fault)
aligned-explains IsText extent bytes contents bits (words.Ragged given) end file h =
    (end, bits, file, h.0, h.1)
aligned-explains IsText extent bytes contents bits (words.Memory error) end file h = tt

aligned-not_read : {T : Type 0} (fault : AlignedFault)
    → ◌≡◌ {A = Result T RunFault} (Err (aligned_fault fault)) (Err Read) → ⊥
aligned-not_read (words.Ragged given) same = cc
aligned-not_read (words.Memory error) same = cc

aligned-not_write : {T : Type 0} (fault : AlignedFault) (written : ℕ)
    → ◌≡◌ {A = Result T RunFault} (Err (aligned_fault fault)) (Err (Write written)) → ⊥
aligned-not_write (words.Ragged given) written same = cc
aligned-not_write (words.Memory error) written same = cc

-- no fault stands in the bytes of elements
bit_file-faultless : (limit : ℕ) (bytes : List ℕ) (bits : List Bool) → IsBitFile limit bytes bits
    → IsFaultless limit bytes
bit_file-faultless limit bytes bits h = record {
  lines = h.lines;
  rest = [];
  splits = record {
    whole = h.file.whole ∙ sym (append-nil _);
    each = h.file.each;
    part = record { none = tt; short = omega arith };
  };
  within = h.file.within;
}

-- a run whose elements have no text
pub WordRun-refused : {R W : Type 0} (IsText : List ℕ → List ℕ → ℕ → Type 0)
    (remaining : R → Option (List ℕ)) (contents : W → Option (List ℕ))
    (reader reader_after : CountedDevice R) (writer : CountedDevice W) (bits : Vec Bool)
    (given : List Bool) (fault : AlignedFault) → writer.failures ≡ 0 → given ≡ bits.items
    → ReadsElements remaining reader reader_after (Ok bits) → ExplainsAligned given fault
    → IsWordRun IsText (devices remaining contents reader reader_after writer writer)
    (Err (aligned_fault fault))
WordRun-refused IsText remaining contents reader reader_after writer bits given fault none is h
    refused =
    let why = subst (λ l. ExplainsAligned l fault) is refused in
    record {
      reads = Reads-on _ _ _ _ _ _ _ h
          (λ extent bytes k. aligned-explains (IsText bytes) extent bytes _ bits.items fault k.0
          k.1 why)
          (λ bytes k clean outside. bit_file-faultless file_limit bytes bits.items k.1)
          (λ e. absurd (aligned-not_read fault e)) (λ e. absurd (Ok-not_err _ _ e));
      writes = Writes-none _ _ _ (aligned-not_write fault) none;
      unwritten = λ other. refl;
    }

-- a text that isn't read
pub Encodes-unread : {R W : Type 0} (remaining : R → Option (List ℕ))
    (contents : W → Option (List ℕ)) (reader reader_after : CountedDevice R)
    (writer : CountedDevice W) (fault : ReadFault) → writer.failures ≡ 0
    → ReadsWhole remaining reader reader_after (Err fault)
    → Encodes (devices remaining contents reader reader_after writer writer)
    (Err (reading_fault fault))
Encodes-unread remaining contents reader reader_after writer read.Read none h = record {
  reads = Reads-on _ _ _ _ _ _ _ h (λ extent bytes k. tt)
      (λ bytes k clean. clean) (λ e. refl) (λ e. refl);
  writes = Writes-none _ _ _ (λ written same. cc) none;
  unwritten = λ other. refl;
}
Encodes-unread remaining contents reader reader_after writer read.FileTooLong none h = record {
  reads = Reads-on _ _ _ _ _ _ _ h (λ extent bytes k. k)
      (λ bytes k clean outside. absurd outside) (λ e. cc) (λ e. cc);
  writes = Writes-none _ _ _ (λ written same. cc) none;
  unwritten = λ other. refl;
}
Encodes-unread remaining contents reader reader_after writer (read.Memory error) none h = record {
  reads = Reads-on _ _ _ _ _ _ _ h (λ extent bytes k. tt)
      (λ bytes k clean. clean) (λ e. cc) (λ e. cc);
  writes = Writes-none _ _ _ (λ written same. cc) none;
  unwritten = λ other. refl;
}

-- a text whose positions have no memory
pub Encodes-no_memory : {R W : Type 0} (remaining : R → Option (List ℕ))
    (contents : W → Option (List ℕ)) (reader reader_after : CountedDevice R)
    (writer : CountedDevice W) (text : Vec ℕ) (error : AllocError) → writer.failures ≡ 0
    → ReadsWhole remaining reader reader_after (Ok text)
    → Encodes (devices remaining contents reader reader_after writer writer) (Err (Memory error))
Encodes-no_memory remaining contents reader reader_after writer text error none h = record {
  reads = Reads-on _ _ _ _ _ _ _ h (λ extent bytes k. tt)
      (λ bytes k clean outside. k.1.0) (λ e. cc) (λ e. cc);
  writes = Writes-none _ _ _ (λ written same. cc) none;
  unwritten = λ other. refl;
}

module _ {R W T F : Type 0} (remaining : R → Option (List ℕ)) (contents : W → Option (List ℕ))
    (reader reader_after : CountedDevice R) (writer writer_after : CountedDevice W) (read : F)
    (items : T) (behind : F → List ℕ → Type 0) (faultless : List ℕ → Type 0)
    (answers run_answers : Extent → List ℕ → Type 0)
    (reads : Reads (input remaining reader reader_after) read behind (Ok items) answers)
    (knows : (extent : Extent) (bytes : List ℕ) → answers extent bytes → run_answers extent bytes)
  where
    -- a run that read all and wrote what that gives
    pub Transfers-done : (count : ℕ) → writer_after.failures ≡ 0
        → Transfers (reads_then_writes faultless)
        (devices remaining contents reader reader_after writer writer_after) (Ok count) run_answers
    Transfers-done count none = record {
      reads = Reads-on _ _ _ _ _ _ _ reads knows (λ bytes k h. h)
          (λ e. absurd (Ok-not_err _ _ e)) (λ e. absurd (Ok-not_err _ _ e));
      writes = Writes-none _ _ _ (λ written same. Ok-not_err _ _ same) none;
      unwritten = tt;
    }

    -- a run that read all, and whose write failed
    pub Transfers-cut : {N : Type 0} (written : ℕ) → writer_after.failures ≡ 1
        → Transfers {N = N} (reads_then_writes faultless)
        (devices remaining contents reader reader_after writer writer_after) (Err (Write written))
        run_answers
    Transfers-cut written one = record {
      reads = Reads-on _ _ _ _ _ _ _ reads knows (λ bytes k h out. absurd out)
          (λ e. absurd (Write-not_read _ e)) (λ e. absurd (Ok-not_err _ _ e));
      writes = record { failed = (λ w. one, λ o. (written, refl)); once = omega (arith, one) };
      unwritten = λ other. absurd (other written refl);
    }
