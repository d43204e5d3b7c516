-- A line says one thing.
use Rattle.std.proofs.Common.{◌≡◌, ◌∙◌, ◌&&◌, ℕ, ℤ, Option, None, Some, true, false, List, [], ◌∷◌, ◌++◌, ap, ap₂, arith, codes, drop, eq-eqb, get_or, length, refl, subst, sym, true≢false}
use Rattle.std.proofs.lemmas.Fmt.{signed_decimal_injective}
use Rattle.std.proofs.lemmas.List.{length-append}
use Rattle.std.specs.Str.Parse.{digits_value, without_leading_plus}
use Rattle.bayou_lang.specs.Laws.Equality.{server-ext}
use Rattle.std.specs.Str.{bytes_eq}
use Rattle.bayou_base.specs.declared.value.Value.{Value}
use Rattle.bayou_base.specs.declared.value.Value.TheVariants.{Num, Text}
use Rattle.bayou_person.specs.declared.wish.Wish.{Wish}
use Rattle.bayou_person.specs.declared.wish.Wish.TheVariants.{Put, Add, Del, Claim, Get, At, List as Whole, Rows, Became, Servers, Session, Dump}
use Rattle.bayou_person.specs.Wishes.{IsValueOf, Reads, Says, Word}
use Rattle.bayou_person.proofs.Named.{name_once}

-- the word that a line of this form begins with
abbrev first_of : Wish → Word
first_of (Put key value) = codes "put"
first_of (Add key number) = codes "add"
first_of (Del key) = codes "del"
first_of (Claim key others value) = codes "claim"
first_of (Get key others) = codes "get"
first_of (At server) = codes "at"
first_of Whole = codes "list"
first_of (Rows prefix) = codes "list"
first_of (Became wid) = codes "became"
first_of Servers = codes "servers"
first_of Session = codes "session"
first_of Dump = codes "dump"

-- the first of the words, or none
abbrev head_of : List Word → Word
head_of [] = []
head_of (word ∷ words) = word

begins : (words : List Word) (wish : Wish) → Says words wish → head_of words ≡ first_of wish
begins words (Put key value) says = ap head_of says.1
begins words (Add key number) says = ap head_of says.1
begins words (Del key) says = ap head_of says.0
begins words (Claim key others value) says = ap head_of says.1
begins words (Get key others) says = ap head_of says.0
begins words (At server) says = ap head_of says.1
begins words Whole says = ap head_of says
begins words (Rows prefix) says = ap head_of says.0
begins words (Became wid) says = ap head_of says.1
begins words Servers says = ap head_of says
begins words Session says = ap head_of says
begins words Dump says = ap head_of says

pub same_self : (word : Word) → bytes_eq word word ≡ true
same_self [] = refl
same_self (byte ∷ word) = ap₂ ◌&&◌ (eq-eqb byte byte refl) (same_self word)

-- words that begin otherwise are no line of this form
differ : (words : List Word) (one other : Wish) → bytes_eq (first_of one) (first_of other) ≡ false → Says words one → Says words other → one ≡ other
differ words one other apart first second =
    let same : first_of one ≡ first_of other = sym (begins words one first) ∙ begins words other second in
    absurd (true≢false (sym (same_self (first_of one)) ∙ ap (bytes_eq (first_of one)) same ∙ apart))

reads_once : (word : Word) (one other : ℤ) → Reads word one → Reads word other → one ≡ other
reads_once word one other first second =
    signed_decimal_injective one other first.fits.sfits second.fits.sfits (sym first.is ∙ second.is)

-- the text, where there is one
abbrev text_or_none : Option (List ℕ) → List ℕ
text_or_none None = []
text_or_none (Some text) = text

value_once : (word : Word) (one other : Value) → IsValueOf word one → IsValueOf word other → one ≡ other
value_once word (Num one) (Num other) first second = ap Num (reads_once word one other first second)
value_once word (Num one) (Text other) first second = absurd (second.2 one first)
value_once word (Text one) (Num other) first second = absurd (first.2 other second)
value_once word (Text one) (Text other) first second = ap Text (ap text_or_none (sym first.0 ∙ second.0))

-- two lists with a last one more
pub same_ends : {A : Type 0} (xs ys : List A) (x y : A) → xs ++ x ∷ [] ≡ ys ++ y ∷ [] → (xs ≡ ys) × (x ≡ y)
same_ends [] [] x y is = (refl, ap (λ list. get_or list 0 x) is)
same_ends [] (b ∷ ys) x y is = absurd (omega (arith, ap length is, length-append ys (y ∷ [])))
same_ends (a ∷ xs) [] x y is = absurd (omega (arith, ap length is, length-append xs (x ∷ [])))
same_ends (a ∷ xs) (b ∷ ys) x y is =
    let rest = same_ends xs ys x y (ap (drop 1) is) in
    (ap₂ ◌∷◌ (ap (λ list. get_or list 0 a) is) rest.0, rest.1)

pub says_once : (words : List Word) (one other : Wish) → Says words one → Says words other → one ≡ other
says_once words (Put key value) (Put other_key other_value) first second =
    let (word, is, key_is, worth) = first in
    let (other_word, other_is, other_key_is, other_worth) = second in
    let same = sym is ∙ other_is in
    ap₂ Put (ap (λ list. get_or list 1 []) same) (value_once word value other_value worth (subst (λ it. IsValueOf it other_value) (sym (ap (λ list. get_or list 2 []) same)) other_worth))
says_once words (Put key value) (Add other_key other_number) first second = differ words (Put key value) (Add other_key other_number) refl first second
says_once words (Put key value) (Del other_key) first second = differ words (Put key value) (Del other_key) refl first second
says_once words (Put key value) (Claim other_key other_others other_value) first second = differ words (Put key value) (Claim other_key other_others other_value) refl first second
says_once words (Put key value) (Get other_key other_others) first second = differ words (Put key value) (Get other_key other_others) refl first second
says_once words (Put key value) (At other_server) first second = differ words (Put key value) (At other_server) refl first second
says_once words (Put key value) Whole first second = differ words (Put key value) Whole refl first second
says_once words (Put key value) (Rows other_prefix) first second = differ words (Put key value) (Rows other_prefix) refl first second
says_once words (Put key value) (Became other_wid) first second = differ words (Put key value) (Became other_wid) refl first second
says_once words (Put key value) Servers first second = differ words (Put key value) Servers refl first second
says_once words (Put key value) Session first second = differ words (Put key value) Session refl first second
says_once words (Put key value) Dump first second = differ words (Put key value) Dump refl first second
says_once words (Add key number) (Put other_key other_value) first second = differ words (Add key number) (Put other_key other_value) refl first second
says_once words (Add key number) (Add other_key other_number) first second =
    let (word, is, key_is, worth) = first in
    let (other_word, other_is, other_key_is, other_worth) = second in
    let same = sym is ∙ other_is in
    ap₂ Add (ap (λ list. get_or list 1 []) same) (reads_once word number other_number worth (subst (λ it. Reads it other_number) (sym (ap (λ list. get_or list 2 []) same)) other_worth))
says_once words (Add key number) (Del other_key) first second = differ words (Add key number) (Del other_key) refl first second
says_once words (Add key number) (Claim other_key other_others other_value) first second = differ words (Add key number) (Claim other_key other_others other_value) refl first second
says_once words (Add key number) (Get other_key other_others) first second = differ words (Add key number) (Get other_key other_others) refl first second
says_once words (Add key number) (At other_server) first second = differ words (Add key number) (At other_server) refl first second
says_once words (Add key number) Whole first second = differ words (Add key number) Whole refl first second
says_once words (Add key number) (Rows other_prefix) first second = differ words (Add key number) (Rows other_prefix) refl first second
says_once words (Add key number) (Became other_wid) first second = differ words (Add key number) (Became other_wid) refl first second
says_once words (Add key number) Servers first second = differ words (Add key number) Servers refl first second
says_once words (Add key number) Session first second = differ words (Add key number) Session refl first second
says_once words (Add key number) Dump first second = differ words (Add key number) Dump refl first second
says_once words (Del key) (Put other_key other_value) first second = differ words (Del key) (Put other_key other_value) refl first second
says_once words (Del key) (Add other_key other_number) first second = differ words (Del key) (Add other_key other_number) refl first second
says_once words (Del key) (Del other_key) first second = ap Del (ap (λ list. get_or list 1 []) (sym first.0 ∙ second.0))
says_once words (Del key) (Claim other_key other_others other_value) first second = differ words (Del key) (Claim other_key other_others other_value) refl first second
says_once words (Del key) (Get other_key other_others) first second = differ words (Del key) (Get other_key other_others) refl first second
says_once words (Del key) (At other_server) first second = differ words (Del key) (At other_server) refl first second
says_once words (Del key) Whole first second = differ words (Del key) Whole refl first second
says_once words (Del key) (Rows other_prefix) first second = differ words (Del key) (Rows other_prefix) refl first second
says_once words (Del key) (Became other_wid) first second = differ words (Del key) (Became other_wid) refl first second
says_once words (Del key) Servers first second = differ words (Del key) Servers refl first second
says_once words (Del key) Session first second = differ words (Del key) Session refl first second
says_once words (Del key) Dump first second = differ words (Del key) Dump refl first second
says_once words (Claim key others value) (Put other_key other_value) first second = differ words (Claim key others value) (Put other_key other_value) refl first second
says_once words (Claim key others value) (Add other_key other_number) first second = differ words (Claim key others value) (Add other_key other_number) refl first second
says_once words (Claim key others value) (Del other_key) first second = differ words (Claim key others value) (Del other_key) refl first second
says_once words (Claim key others value) (Claim other_key other_others other_value) first second =
    let (word, is, few, key_is, all, worth) = first in
    let (other_word, other_is, other_few, other_key_is, other_all, other_worth) = second in
    let same = sym is ∙ other_is in
    let keys = ap (λ list. get_or list 1 []) same in
    let ends = same_ends others.items other_others.items word other_word (ap (drop 2) same) in
    let values = value_once word value other_value worth (subst (λ it. IsValueOf it other_value) (sym ends.1) other_worth) in
    λ i. Claim (keys i) (record { items = ends.0 i }) (values i)
says_once words (Claim key others value) (Get other_key other_others) first second = differ words (Claim key others value) (Get other_key other_others) refl first second
says_once words (Claim key others value) (At other_server) first second = differ words (Claim key others value) (At other_server) refl first second
says_once words (Claim key others value) Whole first second = differ words (Claim key others value) Whole refl first second
says_once words (Claim key others value) (Rows other_prefix) first second = differ words (Claim key others value) (Rows other_prefix) refl first second
says_once words (Claim key others value) (Became other_wid) first second = differ words (Claim key others value) (Became other_wid) refl first second
says_once words (Claim key others value) Servers first second = differ words (Claim key others value) Servers refl first second
says_once words (Claim key others value) Session first second = differ words (Claim key others value) Session refl first second
says_once words (Claim key others value) Dump first second = differ words (Claim key others value) Dump refl first second
says_once words (Get key others) (Put other_key other_value) first second = differ words (Get key others) (Put other_key other_value) refl first second
says_once words (Get key others) (Add other_key other_number) first second = differ words (Get key others) (Add other_key other_number) refl first second
says_once words (Get key others) (Del other_key) first second = differ words (Get key others) (Del other_key) refl first second
says_once words (Get key others) (Claim other_key other_others other_value) first second = differ words (Get key others) (Claim other_key other_others other_value) refl first second
says_once words (Get key others) (Get other_key other_others) first second =
    let same = sym first.0 ∙ second.0 in
    let keys = ap (λ list. get_or list 1 []) same in
    let rest = ap (drop 2) same in
    λ i. Get (keys i) (record { items = rest i })
says_once words (Get key others) (At other_server) first second = differ words (Get key others) (At other_server) refl first second
says_once words (Get key others) Whole first second = differ words (Get key others) Whole refl first second
says_once words (Get key others) (Rows other_prefix) first second = differ words (Get key others) (Rows other_prefix) refl first second
says_once words (Get key others) (Became other_wid) first second = differ words (Get key others) (Became other_wid) refl first second
says_once words (Get key others) Servers first second = differ words (Get key others) Servers refl first second
says_once words (Get key others) Session first second = differ words (Get key others) Session refl first second
says_once words (Get key others) Dump first second = differ words (Get key others) Dump refl first second
says_once words (At server) (Put other_key other_value) first second = differ words (At server) (Put other_key other_value) refl first second
says_once words (At server) (Add other_key other_number) first second = differ words (At server) (Add other_key other_number) refl first second
says_once words (At server) (Del other_key) first second = differ words (At server) (Del other_key) refl first second
says_once words (At server) (Claim other_key other_others other_value) first second = differ words (At server) (Claim other_key other_others other_value) refl first second
says_once words (At server) (Get other_key other_others) first second = differ words (At server) (Get other_key other_others) refl first second
says_once words (At server) (At other_server) first second =
    let (word, is, reads) = first in
    let (other_word, other_is, other_reads) = second in
    let same : word ≡ other_word = ap (λ list. get_or list 1 []) (sym is ∙ other_is) in
    ap At (server-ext server other_server (reads.is ∙ ap (λ it. digits_value 10 (without_leading_plus it)) same ∙ sym other_reads.is))
says_once words (At server) Whole first second = differ words (At server) Whole refl first second
says_once words (At server) (Rows other_prefix) first second = differ words (At server) (Rows other_prefix) refl first second
says_once words (At server) (Became other_wid) first second = differ words (At server) (Became other_wid) refl first second
says_once words (At server) Servers first second = differ words (At server) Servers refl first second
says_once words (At server) Session first second = differ words (At server) Session refl first second
says_once words (At server) Dump first second = differ words (At server) Dump refl first second
says_once words Whole (Put other_key other_value) first second = differ words Whole (Put other_key other_value) refl first second
says_once words Whole (Add other_key other_number) first second = differ words Whole (Add other_key other_number) refl first second
says_once words Whole (Del other_key) first second = differ words Whole (Del other_key) refl first second
says_once words Whole (Claim other_key other_others other_value) first second = differ words Whole (Claim other_key other_others other_value) refl first second
says_once words Whole (Get other_key other_others) first second = differ words Whole (Get other_key other_others) refl first second
says_once words Whole (At other_server) first second = differ words Whole (At other_server) refl first second
says_once words Whole Whole first second = refl
says_once words Whole (Rows other_prefix) first second = absurd (omega (arith, ap length (sym first ∙ second.0)))
says_once words Whole (Became other_wid) first second = differ words Whole (Became other_wid) refl first second
says_once words Whole Servers first second = differ words Whole Servers refl first second
says_once words Whole Session first second = differ words Whole Session refl first second
says_once words Whole Dump first second = differ words Whole Dump refl first second
says_once words (Rows prefix) (Put other_key other_value) first second = differ words (Rows prefix) (Put other_key other_value) refl first second
says_once words (Rows prefix) (Add other_key other_number) first second = differ words (Rows prefix) (Add other_key other_number) refl first second
says_once words (Rows prefix) (Del other_key) first second = differ words (Rows prefix) (Del other_key) refl first second
says_once words (Rows prefix) (Claim other_key other_others other_value) first second = differ words (Rows prefix) (Claim other_key other_others other_value) refl first second
says_once words (Rows prefix) (Get other_key other_others) first second = differ words (Rows prefix) (Get other_key other_others) refl first second
says_once words (Rows prefix) (At other_server) first second = differ words (Rows prefix) (At other_server) refl first second
says_once words (Rows prefix) Whole first second = absurd (omega (arith, ap length (sym first.0 ∙ second)))
says_once words (Rows prefix) (Rows other_prefix) first second = ap Rows (ap (λ list. get_or list 1 []) (sym first.0 ∙ second.0))
says_once words (Rows prefix) (Became other_wid) first second = differ words (Rows prefix) (Became other_wid) refl first second
says_once words (Rows prefix) Servers first second = differ words (Rows prefix) Servers refl first second
says_once words (Rows prefix) Session first second = differ words (Rows prefix) Session refl first second
says_once words (Rows prefix) Dump first second = differ words (Rows prefix) Dump refl first second
says_once words (Became wid) (Put other_key other_value) first second = differ words (Became wid) (Put other_key other_value) refl first second
says_once words (Became wid) (Add other_key other_number) first second = differ words (Became wid) (Add other_key other_number) refl first second
says_once words (Became wid) (Del other_key) first second = differ words (Became wid) (Del other_key) refl first second
says_once words (Became wid) (Claim other_key other_others other_value) first second = differ words (Became wid) (Claim other_key other_others other_value) refl first second
says_once words (Became wid) (Get other_key other_others) first second = differ words (Became wid) (Get other_key other_others) refl first second
says_once words (Became wid) (At other_server) first second = differ words (Became wid) (At other_server) refl first second
says_once words (Became wid) Whole first second = differ words (Became wid) Whole refl first second
says_once words (Became wid) (Rows other_prefix) first second = differ words (Became wid) (Rows other_prefix) refl first second
says_once words (Became wid) (Became other_wid) first second =
    let (word, is, reads) = first in
    let (other_word, other_is, other_reads) = second in
    let same : word ≡ other_word = ap (λ list. get_or list 1 []) (sym is ∙ other_is) in
    ap Became (name_once word wid other_wid reads (same ∙ other_reads))
says_once words (Became wid) Servers first second = differ words (Became wid) Servers refl first second
says_once words (Became wid) Session first second = differ words (Became wid) Session refl first second
says_once words (Became wid) Dump first second = differ words (Became wid) Dump refl first second
says_once words Servers (Put other_key other_value) first second = differ words Servers (Put other_key other_value) refl first second
says_once words Servers (Add other_key other_number) first second = differ words Servers (Add other_key other_number) refl first second
says_once words Servers (Del other_key) first second = differ words Servers (Del other_key) refl first second
says_once words Servers (Claim other_key other_others other_value) first second = differ words Servers (Claim other_key other_others other_value) refl first second
says_once words Servers (Get other_key other_others) first second = differ words Servers (Get other_key other_others) refl first second
says_once words Servers (At other_server) first second = differ words Servers (At other_server) refl first second
says_once words Servers Whole first second = differ words Servers Whole refl first second
says_once words Servers (Rows other_prefix) first second = differ words Servers (Rows other_prefix) refl first second
says_once words Servers (Became other_wid) first second = differ words Servers (Became other_wid) refl first second
says_once words Servers Servers first second = refl
says_once words Servers Session first second = differ words Servers Session refl first second
says_once words Servers Dump first second = differ words Servers Dump refl first second
says_once words Session (Put other_key other_value) first second = differ words Session (Put other_key other_value) refl first second
says_once words Session (Add other_key other_number) first second = differ words Session (Add other_key other_number) refl first second
says_once words Session (Del other_key) first second = differ words Session (Del other_key) refl first second
says_once words Session (Claim other_key other_others other_value) first second = differ words Session (Claim other_key other_others other_value) refl first second
says_once words Session (Get other_key other_others) first second = differ words Session (Get other_key other_others) refl first second
says_once words Session (At other_server) first second = differ words Session (At other_server) refl first second
says_once words Session Whole first second = differ words Session Whole refl first second
says_once words Session (Rows other_prefix) first second = differ words Session (Rows other_prefix) refl first second
says_once words Session (Became other_wid) first second = differ words Session (Became other_wid) refl first second
says_once words Session Servers first second = differ words Session Servers refl first second
says_once words Session Session first second = refl
says_once words Session Dump first second = differ words Session Dump refl first second
says_once words Dump (Put other_key other_value) first second = differ words Dump (Put other_key other_value) refl first second
says_once words Dump (Add other_key other_number) first second = differ words Dump (Add other_key other_number) refl first second
says_once words Dump (Del other_key) first second = differ words Dump (Del other_key) refl first second
says_once words Dump (Claim other_key other_others other_value) first second = differ words Dump (Claim other_key other_others other_value) refl first second
says_once words Dump (Get other_key other_others) first second = differ words Dump (Get other_key other_others) refl first second
says_once words Dump (At other_server) first second = differ words Dump (At other_server) refl first second
says_once words Dump Whole first second = differ words Dump Whole refl first second
says_once words Dump (Rows other_prefix) first second = differ words Dump (Rows other_prefix) refl first second
says_once words Dump (Became other_wid) first second = differ words Dump (Became other_wid) refl first second
says_once words Dump Servers first second = differ words Dump Servers refl first second
says_once words Dump Session first second = differ words Dump Session refl first second
says_once words Dump Dump first second = refl
