-- The calls at a station, each by the words that it is made of; their places are counted from 0,
-- and the name of the station and the call itself stand at 0 and 1.
use Rattle.std.specs.Prelude.{ℕ, cond, List, Some, None, Ok, Err, codes, Option, Result}
use Rattle.std.specs.Str.{bytes_eq}
use Rattle.words.specs.Reading.{next, number_at, key_at, flag_at, end_at}
use Rattle.words.specs.Words.{word_at}
use Rattle.words.specs.declared.fault.Expected.TheVariants as expected
use Rattle.words.specs.declared.fault.Fault.{Fault}
use Rattle.calls.specs.declared.Algorithms.{Algorithms}
use Rattle.calls.specs.declared.Call.{Call}
use Rattle.calls.specs.declared.Call.TheVariants.{Admit, Install, Revoke, Protect, Receive, Plain}
use Rattle.calls.specs.declared.Lifetime.{Lifetime}
use Rattle.calls.specs.declared.Parties.{Parties}

-- NETWORK STANCE
unfoldable pub admit : List ℕ → Result Call Fault
admit line =
    next (number_at 4294967295 2 line) λ network.
    next (number_at 255 3 line) λ stance.
    next (end_at 4 line) λ _.
    Ok (Admit network stance)

-- SENDER DESTINATION SPI
unfoldable pub parties : List ℕ → Result Parties Fault
parties line =
    next (number_at 4294967295 3 line) λ sender.
    next (number_at 4294967295 4 line) λ destination.
    next (number_at 4294967295 5 line) λ spi.
    Ok (record { sender = sender; destination = destination; spi = spi })

-- MEA MEK MIA MIK
unfoldable pub algorithms : List ℕ → Result Algorithms Fault
algorithms line =
    next (number_at 255 6 line) λ mea.
    next (key_at 7 line) λ mek.
    next (number_at 255 8 line) λ mia.
    next (key_at 9 line) λ mik.
    Ok (record { mea = mea; mek = mek; mia = mia; mik = mik })

-- PPI SOFT HARD
unfoldable pub lifetime : List ℕ → Result Lifetime Fault
lifetime line =
    next (number_at 65535 10 line) λ ppi.
    next (number_at 18446744073709551615 11 line) λ soft.
    next (number_at 18446744073709551615 12 line) λ hard.
    Ok (record { ppi = ppi; soft = soft; hard = hard })

-- READING SENDER DESTINATION SPI MEA MEK MIA MIK PPI SOFT HARD
unfoldable pub install : List ℕ → Result Call Fault
install line =
    next (number_at 18446744073709551615 2 line) λ reading.
    next (parties line) λ parties.
    next (algorithms line) λ algorithms.
    next (lifetime line) λ lifetime.
    next (end_at 13 line) λ _.
    Ok (Install reading parties algorithms lifetime)

-- DESTINATION SPI
unfoldable pub revoke : List ℕ → Result Call Fault
revoke line =
    next (number_at 4294967295 2 line) λ destination.
    next (number_at 4294967295 3 line) λ spi.
    next (end_at 4 line) λ _.
    Ok (Revoke destination spi)

-- READING NETWORK KIND CODE OCTETS ROOM
unfoldable pub protect : List ℕ → Result Call Fault
protect line =
    next (number_at 18446744073709551615 2 line) λ reading.
    next (number_at 4294967295 3 line) λ network.
    next (number_at 255 4 line) λ kind.
    next (number_at 255 5 line) λ code.
    next (number_at 65536 7 line) λ room.
    next (end_at 8 line) λ _.
    Ok (Protect reading network kind code room)

-- READING NETWORK WAITING OCTETS ROOM
unfoldable pub receive : List ℕ → Result Call Fault
receive line =
    next (number_at 18446744073709551615 2 line) λ reading.
    next (number_at 4294967295 3 line) λ network.
    next (flag_at 4 line) λ waiting.
    next (number_at 65536 6 line) λ room.
    next (end_at 7 line) λ _.
    Ok (Receive reading network waiting room)

-- READING KIND CODE WAITING OCTETS
unfoldable pub plain : List ℕ → Result Call Fault
plain line =
    next (number_at 18446744073709551615 2 line) λ reading.
    next (number_at 255 3 line) λ kind.
    next (number_at 255 4 line) λ code.
    next (flag_at 5 line) λ waiting.
    next (end_at 7 line) λ _.
    Ok (Plain reading kind code waiting)

-- how a call is written
abbrev pub verb : Call → List ℕ
verb (Admit network stance) = codes "admit"
verb (Install reading parties algorithms lifetime) = codes "install"
verb (Revoke destination spi) = codes "revoke"
verb (Protect reading network kind code room) = codes "protect"
verb (Receive reading network waiting room) = codes "receive"
verb (Plain reading kind code waiting) = codes "plain"

-- where OCTETS stands
abbrev pub octets_place : Call → Option ℕ
octets_place (Admit network stance) = None
octets_place (Install reading parties algorithms lifetime) = None
octets_place (Revoke destination spi) = None
octets_place (Protect reading network kind code room) = Some 6
octets_place (Receive reading network waiting room) = Some 5
octets_place (Plain reading kind code waiting) = Some 6

-- the call that the second word begins
unfoldable pub called_by : List ℕ → Result Call Fault
called_by line =
    cond (bytes_eq (word_at 1 line) (codes "admit")) (admit line)
    (cond (bytes_eq (word_at 1 line) (codes "install")) (install line)
    (cond (bytes_eq (word_at 1 line) (codes "revoke")) (revoke line)
    (cond (bytes_eq (word_at 1 line) (codes "protect")) (protect line)
    (cond (bytes_eq (word_at 1 line) (codes "receive")) (receive line)
    (cond (bytes_eq (word_at 1 line) (codes "plain")) (plain line)
    (Err (record { place = 1; expected = expected.Call })))))))
