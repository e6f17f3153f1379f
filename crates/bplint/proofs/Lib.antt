mod Endings
mod UnreadCertificates
