-- A certificate's text is read back as the certificate.
pub mod Values
pub mod Texts
pub mod Readers
pub mod Certificates
pub mod Documents
