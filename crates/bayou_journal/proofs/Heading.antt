-- How the front of a journal is read.
use Rattle.std.proofs.Common.{◌≡◌, ◌⊎◌, inl, inr, ℕ, ◌<◌, ◌≤◌, List, [], ◌∷◌, ◌++◌, length, get_or, take, drop, refl, sym, ◌∙◌, ap, subst, arith, append_assoc, length-append, take-append-drop}
use Rattle.std.proofs.lemmas.Bool.{cases_order}
use Rattle.std.proofs.lemmas.List.{append-nil, get_or_past, take_all, take_at, take-append-le, drop_more}
use Rattle.bayou_device.specs.Device.{BeginsWith}
use Rattle.bayou_journal.specs.Chain.{name, header}
use Rattle.bayou_journal.specs.Opening.{IsForeign, IsNew}
use Rattle.bayou_journal.specs.Versions.{IsVersion}
use Rattle.bayou_journal.specs.declared.format.TheConstants.{HEADER_BYTES, MAGIC, MAGIC_BYTES, NAME_BYTES, NEWEST_VERSION}
use Rattle.bayou_journal.proofs.Raising.{is_newest}

-- the version that the bytes name
abbrev pub named : List ℕ → ℕ
named bytes = get_or bytes MAGIC_BYTES NEWEST_VERSION

front_of_name : (version server n : ℕ) → n ≤ NAME_BYTES → take n (header version server) ≡ take n (name version)
front_of_name version server n short = take-append-le n (name version) (server ∷ []) short

-- short bytes that agree with a name are a front of it
pub is_new : (version server : ℕ) (bytes : List ℕ) → IsVersion version → length bytes ≤ NAME_BYTES → take (length bytes) (header version server) ≡ bytes → IsNew bytes
is_new version server bytes known short same = (
  version,
  known,
  (
    drop (length bytes) (name version),
    sym (take-append-drop (length bytes) (name version)) ∙ ap (λ (l : List ℕ). l ++ drop (length bytes) (name version)) (sym (front_of_name version server (length bytes) short) ∙ same),
  ),
)

nothing : (rest : List ℕ) → length rest ≡ 0 → rest ≡ []
nothing [] none = refl
nothing (x ∷ rest) none = absurd (omega arith)

-- so many bytes are read of a name: all of them, where there are no more
pub record IsNamed (bytes : List ℕ) (read : ℕ) : Type 0 where
  pub short : length bytes ≤ NAME_BYTES → read ≡ length bytes
  pub long : NAME_BYTES ≤ length bytes → read ≡ NAME_BYTES

-- bytes that agree with no name are no journal's
pub is_foreign : (server read : ℕ) (bytes : List ℕ) → IsNamed bytes read → (IsVersion (named bytes) → take read bytes ≡ take read (header (named bytes) server) → ⊥) → IsForeign bytes
is_foreign server read bytes parts other = record {
  no_front = λ new. no_front new.0 new.1 new.2 (cases_order (length bytes) NAME_BYTES);
  no_journal = λ version known begins.
      let long : NAME_BYTES ≤ length bytes = omega (arith, ap length begins.1, length-append (name version) begins.0) in
      agrees version known begins.0 begins.1 long;
}
  where
    agrees : (version : ℕ) → IsVersion version → (rest : List ℕ) → bytes ≡ name version ++ rest → NAME_BYTES ≤ length bytes → ⊥
    agrees version known rest split long =
        let is : named bytes ≡ version = ap named split in
        let front : take NAME_BYTES bytes ≡ take NAME_BYTES (header version server) = ap (take NAME_BYTES) split in
        other (subst IsVersion (sym is) known)
        (ap (λ (n : ℕ). take n bytes) (parts.long long) ∙ front ∙ ap (λ (v : ℕ). take NAME_BYTES (header v server)) (sym is) ∙ ap (λ (n : ℕ). take n (header (named bytes) server)) (sym (parts.long long)))

    no_front : (version : ℕ) → IsVersion version → BeginsWith bytes (name version) → (length bytes ≡ NAME_BYTES) ⊎ ((length bytes < NAME_BYTES) ⊎ (NAME_BYTES < length bytes)) → ⊥
    no_front version known (rest, split) (inl same) =
        let none : rest ≡ [] = nothing rest (omega (arith, same, ap length split, length-append bytes rest)) in
        let whole : bytes ≡ name version ++ [] = sym (append-nil bytes) ∙ ap (λ (l : List ℕ). bytes ++ l) (sym none) ∙ sym split in
        agrees version known [] whole (omega (arith, same))
    no_front version known (rest, split) (inr (inl short)) =
        let is : named bytes ≡ NEWEST_VERSION = get_or_past bytes MAGIC_BYTES NEWEST_VERSION (omega arith) in
        let size = parts.short (omega arith) in
        let within : read ≤ MAGIC_BYTES = omega arith in
        let front : take read bytes ≡ take read (header (named bytes) server) =
        take_all read bytes (omega arith) ∙ sym (take_at bytes rest read (sym size)) ∙ ap (take read) (sym split) ∙ take-append-le read MAGIC (version ∷ []) within
        ∙ sym (take-append-le read MAGIC (named bytes ∷ server ∷ []) within) in
        other (subst IsVersion (sym is) is_newest) front
    no_front version known (rest, split) (inr (inr long)) = omega (arith, ap length split, length-append bytes rest)

ten_bytes : (bytes : List ℕ) → HEADER_BYTES ≤ length bytes → bytes ≡ (take NAME_BYTES bytes ++ get_or bytes NAME_BYTES 0 ∷ []) ++ drop HEADER_BYTES bytes
ten_bytes bytes long =
    sym (take-append-drop NAME_BYTES bytes) ∙ ap (λ (l : List ℕ). take NAME_BYTES bytes ++ l) (drop_more bytes NAME_BYTES 0 (omega arith))
    ∙ sym (append_assoc (take NAME_BYTES bytes) (get_or bytes NAME_BYTES 0 ∷ []) (drop HEADER_BYTES bytes))

pub has_header : (version server : ℕ) (bytes : List ℕ) (owner : ℕ) → HEADER_BYTES ≤ length bytes → take NAME_BYTES bytes ≡ take NAME_BYTES (header version server) → get_or bytes NAME_BYTES 0 ≡ owner → BeginsWith (header version owner) bytes
has_header version server bytes owner long same is = (
  drop HEADER_BYTES bytes,
  ten_bytes bytes long ∙ ap (λ (l : List ℕ). (l ++ get_or bytes NAME_BYTES 0 ∷ []) ++ drop HEADER_BYTES bytes) same ∙ ap (λ (o : ℕ). header version o ++ drop HEADER_BYTES bytes) is,
)
